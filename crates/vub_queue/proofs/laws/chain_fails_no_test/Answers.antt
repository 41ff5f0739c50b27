use Rattle.vub_queue.proofs.laws.chain_fails_no_test.Goals as goal
use Rattle.vub_queue.proofs.Chains.{chain_whole}

pub returns : goal.returns
returns c = chain_whole
