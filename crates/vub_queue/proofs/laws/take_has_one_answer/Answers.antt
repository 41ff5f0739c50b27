use Rattle.vub_queue.proofs.laws.take_has_one_answer.Goals as goal
use Rattle.vub_queue.proofs.Takes.{taken_one}

pub returns : goal.returns
returns c = taken_one
