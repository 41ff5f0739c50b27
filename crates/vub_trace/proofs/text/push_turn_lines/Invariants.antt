use Rattle.std.proofs.Common.{◌≡◌, ◌++◌, drop, string_bytes}
use Rattle.vub_trace.specs.Past.{IsWithin, none_past}
use Rattle.vub_trace.specs.Text.{lines_from}
use Rattle.vub_trace.proofs.text.push_turn_lines.Given as goal

abbrev pub invariant-loop-at : goal.invariant-loop-at
invariant-loop-at l = record {
  told : string_bytes l.text ++ lines_from l.setup l.masks l.run l.past (drop l.at l.schedule) (drop l.at l.labels)
      ≡ string_bytes l.fn.text ++ lines_from l.setup l.masks l.run none_past l.schedule l.labels;
  turns : l.past.turns ≡ l.at;
  within : IsWithin l.past;
}
