use Rattle.vub_mem.specs.Halving.{StandsAt}
use Rattle.vub_mem.proofs.places.covers_from.Given as goal
use Rattle.vub_mem.proofs.Ranges.{CoversSo}

abbrev pub invariant-loop-left : goal.invariant-loop-left
invariant-loop-left l = record { covers : CoversSo l.regions l.fn.addr l.fn.len l.at l.left; stands : StandsAt l.regions l.at l.on }

abbrev pub decreases-loop-left : goal.decreases-loop-left
decreases-loop-left l = l.left
