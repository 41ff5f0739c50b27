use Rattle.vub_log.proofs.laws.notes_hold.Goals as goal
use Rattle.vub_log.proofs.Holding.{hold_where_noted, loads_hold, count_harvests}

pub returns-clause-marks : goal.returns-clause-marks
returns-clause-marks c = hold_where_noted

pub returns-clause-loads : goal.returns-clause-loads
returns-clause-loads c = loads_hold

pub returns-clause-generations : goal.returns-clause-generations
returns-clause-generations c = count_harvests
