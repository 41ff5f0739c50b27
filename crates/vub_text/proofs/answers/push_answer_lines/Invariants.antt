use Rattle.std.proofs.Common.{◌≡◌, ◌++◌, drop, string_bytes}
use Rattle.vub_text.specs.Lines.{answer_lines}
use Rattle.vub_text.proofs.answers.push_answer_lines.Given as goal

abbrev pub invariant-loop-number : goal.invariant-loop-number
invariant-loop-number l =
    string_bytes l.text ++ answer_lines l.number (drop l.number l.answers) ≡ string_bytes l.fn.text ++ answer_lines 0 l.answers
