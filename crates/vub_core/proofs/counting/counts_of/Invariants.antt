use Rattle.std.proofs.Common.{◌≡◌, ◌++◌, drop}
use Rattle.vub_model.specs.RunRecords.{counts_from}
use Rattle.vub_core.proofs.counting.counts_of.Given as goal

abbrev pub invariant-loop-number : goal.invariant-loop-number
invariant-loop-number l = l.counts.items ++ counts_from l.host.table l.number (drop l.number l.objects) ≡ counts_from l.host.table 0 l.objects
