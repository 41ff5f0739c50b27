use Rattle.vub_mem.proofs.places.read_each.Goals as goal
use Rattle.std.proofs.Common.{arith}
use Rattle.vub_mem.proofs.Ranges.{bytes_at_all}

pub returns : goal.returns
returns c = bytes_at_all _ _ _ _ c.loop-i.auto.out (λ k h. c.loop-i.invariant k (omega arith))
