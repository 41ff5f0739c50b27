use Rattle.vub_queue.proofs.laws.empty_where_none_is_left.Goals as goal
use Rattle.vub_queue.proofs.Left.{empty_left}

pub returns : goal.returns
returns c = empty_left
