use Rattle.std.proofs.Common.{length, ◌-◌}
use Rattle.vub_mem.proofs.Halving.{HalvesSo, StepsSo}
use Rattle.vub_mem.proofs.starts.count_starts.Given as goal

abbrev pub invariant-loop-low : goal.invariant-loop-low
invariant-loop-low g l = record { halves : HalvesSo l.starts.regions.now l.addr l.low l.high; steps : StepsSo (length l.starts.regions.now) l.fn.steps l.steps (l.high - l.low) }

abbrev pub decreases-loop-low : goal.decreases-loop-low
decreases-loop-low g l = l.high - l.low
