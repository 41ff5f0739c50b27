use Rattle.vub_model.specs.Service.{meaning}
use Rattle.vub_vring.specs.Calls.{telling}
use Rattle.vub_loop.specs.Looping.{TakesTurns, is_going}
use Rattle.vub_loop.proofs.handler.VringEpollHandler.run.Given as goal

abbrev pub invariant-loop : goal.invariant-loop
invariant-loop g l =
    TakesTurns is_going (meaning g.P.Service.Service.reply_of g.P.Service.Service.after) (telling g.P.Device.VhostUserBackendMut.said g.P.Device.VhostUserBackendMut.moved)
    l.initial.self l.self (g.P.Parts.state l.initial.parts) (g.P.Parts.state l.parts)
