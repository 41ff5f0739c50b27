use Rattle.std.proofs.Common.{◌≡◌, ◌++◌, drop}
use Rattle.vub_model.specs.RunRecords.{spans_from}
use Rattle.vub_core.proofs.spans.spans_of.Given as goal

abbrev pub invariant-loop-number : goal.invariant-loop-number
invariant-loop-number l = l.spans.items ++ spans_from l.written l.memory.guest l.number (drop l.number l.objects) ≡ spans_from l.written l.memory.guest 0 l.objects
