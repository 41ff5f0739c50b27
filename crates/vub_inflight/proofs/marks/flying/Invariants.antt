use Rattle.std.proofs.Common.{◌≡◌, ◌++◌, drop}
use Rattle.vub_inflight.specs.Order.{flying_from}
use Rattle.vub_inflight.proofs.marks.flying.Given as goal

abbrev pub invariant-loop-head : goal.invariant-loop-head
invariant-loop-head l = l.marks.items ++ flying_from l.head (drop l.head l.slots) ≡ flying_from 0 l.slots
