use Rattle.vub_queue.proofs.laws.take_has_an_answer.Goals as goal
use Rattle.vub_queue.proofs.Walks.{takes_some}

pub returns : goal.returns
returns c = takes_some
