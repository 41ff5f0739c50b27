use Rattle.vub_queue.proofs.laws.put_changes_only_its_places.Goals as goal
use Rattle.vub_queue.proofs.Places.{put_apart}

pub returns : goal.returns
returns c = put_apart
