use Rattle.std.proofs.Common.{IfErr, subst}
use Rattle.vub_daemon.specs.Reports.{IsReportError}
use Rattle.vub_live.proofs.live.reported.Goals as goal

pub returns-in-Err : goal.returns-in-Err
returns-in-Err c = λ before now told.
    c.missing_of.ensures.reported before now (subst (λ r. IfErr r IsReportError) c.in-Err.is c.requires)
