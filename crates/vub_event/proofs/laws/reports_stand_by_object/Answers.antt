use Rattle.vub_event.proofs.laws.reports_stand_by_object.Goals as goal
use Rattle.vub_event.proofs.ByObject.{reports-by-object}

pub returns : goal.returns
returns c = reports-by-object
