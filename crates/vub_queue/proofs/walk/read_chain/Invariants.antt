use Rattle.std.proofs.Common.{◌-◌, length}
use Rattle.vub_queue.proofs.Chains.{WalkSo}
use Rattle.vub_queue.proofs.walk.read_chain.Given as goal

abbrev pub invariant-walk : goal.invariant-walk
invariant-walk g l = WalkSo l.memory.guest (record { base = l.table; size = l.size }) l.fn.head l.list.items l.number l.sum l.fn.steps l.steps

abbrev pub decreases-walk : goal.decreases-walk
decreases-walk g l = l.size - length l.list.items
