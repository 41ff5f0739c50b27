use Rattle.vub_inflight.proofs.marks.sorted_marks.Goals as goal
use Rattle.vub_inflight.proofs.Sorting.{sorted_is}

pub returns : goal.returns
returns c = sorted_is c.args.slots.now c.in_ok-marks.marks.items c.sort_unstable.new.self.items c.in_ok-marks.ensures c.sort_unstable.ensures.permutation c.sort_unstable.ensures.sorted
