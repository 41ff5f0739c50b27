use Rattle.vub_queue.proofs.laws.take_changes_only_avail_event.Goals as goal
use Rattle.vub_queue.proofs.Places.{take_apart}

pub returns : goal.returns
returns c = take_apart
