use Rattle.vub_laws.proofs.laws.schedules_agree.Goals as goal
use Rattle.vub_laws.proofs.Orderly.{schedules-agree}

pub returns : goal.returns
returns o c = schedules-agree _
