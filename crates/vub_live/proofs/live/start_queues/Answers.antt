use Rattle.vub_daemon.specs.Causes.{Counts}
use Rattle.vub_live.proofs.live.start_queues.Goals as goal

pub returns-in-Err-clause-err : goal.returns-in-Err-clause-err
returns-in-Err-clause-err g c =
    let before : Counts =
    record { link = c.new-link.result.faults; spawner = g.S.Spawner.fault_count c.args.daemon.now.spawner } in
    let now : Counts =
    record { link = c.in-Err._link.faults; spawner = g.S.Spawner.fault_count c.start.new.self.spawner } in
    c.missing_of.ensures.started before now c.in-Err.ensures.cause
