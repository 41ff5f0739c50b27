use Rattle.vub_queue.proofs.laws.head_has_one_chain.Goals as goal
use Rattle.vub_queue.proofs.Chains.{links_one}

pub returns : goal.returns
returns c = λ g t head ds es p q. links_one g t head ds es p.links q.links
