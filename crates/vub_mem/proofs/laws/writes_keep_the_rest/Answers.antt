use Rattle.vub_mem.proofs.laws.writes_keep_the_rest.Goals as goal
use Rattle.vub_mem.proofs.Frames.{write_apart}

pub returns : goal.returns
returns c = write_apart
