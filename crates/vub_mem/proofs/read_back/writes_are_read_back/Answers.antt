use Rattle.vub_mem.proofs.read_back.writes_are_read_back.Goals as goal
use Rattle.vub_mem.proofs.ReadsBack.{read_back}

pub returns : goal.returns
returns c = read_back
