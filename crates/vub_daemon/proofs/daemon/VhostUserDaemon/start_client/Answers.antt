use Rattle.vub_daemon.specs.Causes.{Counts}
use Rattle.vub_daemon.proofs.daemon.VhostUserDaemon.start_client.Goals as goal

pub returns-in-Err-clause-cause : goal.returns-in-Err-clause-cause
returns-in-Err-clause-cause g c =
    let before : Counts =
    record { link = g.K.Link.fault_count c.args.link; spawner = g.S.Spawner.fault_count c.args.self.now.spawner } in
    let now : Counts =
    record { link = g.K.Link.fault_count c.in-Err.link; spawner = g.S.Spawner.fault_count c.connect.new.self.spawner } in
    c.start_error.ensures before now c.in-Err.ensures.cause
