use Rattle.std.proofs.Common.{◌+◌, ◌≤◌}
use Rattle.vub_event.proofs.Words.{IsClear}
use Rattle.vub_event.proofs.ready_words.ReadyWords.first.Given as goal

abbrev pub invariant-loop-i : goal.invariant-loop-i
invariant-loop-i g l = record { clear : IsClear l.self-inside.summary l.i; steps : l.steps ≤ l.fn.steps + l.i }
