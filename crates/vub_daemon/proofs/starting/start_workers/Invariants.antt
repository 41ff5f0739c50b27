use Rattle.std.proofs.Common.{◌≡◌}
use Rattle.vub_daemon.proofs.starting.start_workers.Given as goal

abbrev pub invariant-loop-one : goal.invariant-loop-one
invariant-loop-one g l =
    g.S.Spawner.can_spawn l.spawner × (g.S.Spawner.fault_count l.spawner ≡ g.S.Spawner.fault_count l.initial.spawner)
