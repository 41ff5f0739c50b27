use Rattle.vub_queue.proofs.laws.take_changes_nothing.Goals as goal
use Rattle.vub_queue.proofs.Places.{take_nothing}

pub returns : goal.returns
returns c = take_nothing
