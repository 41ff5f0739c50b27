use Rattle.std.proofs.Common.{arith}
use Rattle.vub_share.proofs.Generated.{one_entry_more}
use Rattle.vub_share.proofs.generator.guest_of.Goals as goal

pub loop-i-preserved : goal.loop-i-preserved
loop-i-preserved c = one_entry_more _ _ _ _ c.args.n (omega arith) c.in_ok-push_published.ensures c.loop-i.invariant
