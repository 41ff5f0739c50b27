use Rattle.std.proofs.Common.{arith}
use Rattle.vub_queue.proofs.walk.read_chain.Goals as goal
use Rattle.vub_queue.proofs.Chains.{chain_done, failure_cost, walk_more}

pub returns-then-descriptor-eq0-clause-walked : goal.returns-then-descriptor-eq0-clause-walked
returns-then-descriptor-eq0-clause-walked g c =
    chain_done _ _ _ _ _ _ _ _ _ _ _ c.walk.invariant c.in-Ok.ensures.ok (omega arith) c.if-descriptor-eq0.true c.in_ok-push-in-Ok.ensures.items

pub walk-preserved : goal.walk-preserved
walk-preserved g c =
    walk_more _ _ _ _ _ _ _ _ _ _ _ _ c.walk.invariant c.in-Ok.ensures.ok (omega arith) c.if-descriptor-eq0.false c.in_ok-push-in-Ok.ensures.items c.in-Ok.ensures.cost

pub returns-in-Err-clause-cost : goal.returns-in-Err-clause-cost
returns-in-Err-clause-cost g c = failure_cost _ _ _ _ _ _ _ _ _ _ _ c.walk.invariant (omega arith) c.in-Err.ensures.err c.in-Err.ensures.reads
