use Rattle.vub_queue.proofs.index_back.put_index_is_read_back.Goals as goal
use Rattle.vub_queue.proofs.IndexBack.{index_back}

pub returns : goal.returns
returns c = index_back
