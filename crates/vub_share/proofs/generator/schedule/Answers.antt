use Rattle.std.proofs.Common.{arith}
use Rattle.vub_share.proofs.Generated.{one_turn_more}
use Rattle.vub_share.proofs.generator.schedule.Goals as goal

pub loop-preserved : goal.loop-preserved
loop-preserved c = one_turn_more _ _ _ _ _ c.args.n (omega arith) c.in_ok-extend_from_slice.ensures.items c.loop.invariant
