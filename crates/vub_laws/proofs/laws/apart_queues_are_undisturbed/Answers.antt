use Rattle.vub_laws.proofs.laws.apart_queues_are_undisturbed.Goals as goal
use Rattle.vub_laws.proofs.Disjoint.{apart-undisturbed}

pub returns : goal.returns
returns o c = apart-undisturbed _
