use Rattle.vub_mem.proofs.laws.writes_keep_the_shape.Goals as goal
use Rattle.vub_mem.proofs.Frames.{regions-write_at, length-write_at}

pub returns : goal.returns
returns c = λ g a bs. (regions-write_at g a bs, length-write_at g a bs)
