use Rattle.vub_laws.proofs.laws.work_falls_to_nothing.Goals as goal
use Rattle.vub_laws.proofs.Worked.{work-falls}

pub returns : goal.returns
returns c = work-falls
