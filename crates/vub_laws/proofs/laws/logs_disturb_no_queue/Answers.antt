use Rattle.vub_laws.proofs.laws.logs_disturb_no_queue.Goals as goal
use Rattle.vub_laws.proofs.Logged.{logs-disturb-none}

pub returns : goal.returns
returns o c = logs-disturb-none _
