use Rattle.vub_mem.proofs.marks.stand_from.Goals as goal
use Rattle.vub_mem.proofs.Halving.{stands_past}

pub returns-else-regions-on : goal.returns-else-regions-on
returns-else-regions-on c = stands_past _ _ _ _ c.requires.bounded c.requires.apart c.loop-on.invariant (λ h. c.if-regions-on.false)
