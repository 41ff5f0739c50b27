use Rattle.std.proofs.Common.{length, ◌-◌}
use Rattle.vub_mem.specs.Halving.{IsPast}
use Rattle.vub_mem.proofs.marks.stand_from.Given as goal

abbrev pub invariant-loop-on : goal.invariant-loop-on
invariant-loop-on l = IsPast l.regions l.addr l.on

abbrev pub decreases-loop-on : goal.decreases-loop-on
decreases-loop-on l = length l.regions - l.on
