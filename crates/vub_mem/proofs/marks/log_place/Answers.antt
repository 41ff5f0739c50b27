use Rattle.vub_mem.proofs.marks.log_place.Goals as goal
use Rattle.vub_mem.proofs.MarkLaws.{log_found, log_none}

pub returns-in-Some-clause-found : goal.returns-in-Some-clause-found
returns-in-Some-clause-found g c = log_found _ _ _ c.in-Some.ensures

pub returns-in-None-clause-none : goal.returns-in-None-clause-none
returns-in-None-clause-none g c = log_none g.L.DirtyLog.byte_len c.args.logs.now c.args.object c.in-None.ensures
