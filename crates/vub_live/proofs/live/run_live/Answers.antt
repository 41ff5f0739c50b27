use Rattle.std.proofs.Common.{IfErr, subst}
use Rattle.vub_live.specs.Lived.{IsMissing}
use Rattle.vub_live.proofs.live.run_live.Goals as goal

pub returns-in-Err-clause-differ : goal.returns-in-Err-clause-differ
returns-in-Err-clause-differ g c =
    let before = g.S.Spawner.fault_count c.args.spawner in
    let now = g.S.Spawner.fault_count c.report_of-reported.result.1 in
    c.without.ensures.differ before now
    (subst (λ r. IfErr r (IsMissing before now)) c.in-Err.is c.report_of-reported.ensures)
