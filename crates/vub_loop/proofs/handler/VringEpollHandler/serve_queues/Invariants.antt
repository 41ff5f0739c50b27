use Rattle.vub_model.specs.Service.{meaning}
use Rattle.vub_vring.specs.Calls.{telling}
use Rattle.vub_loop.specs.Handler.{phase_of}
use Rattle.vub_loop.specs.Looping.{TakesTurns}
use Rattle.vub_loop.specs.Phases.{has_queues, ServesTo}
use Rattle.vub_loop.proofs.handler.VringEpollHandler.serve_queues.Given as goal

abbrev pub invariant-loop : goal.invariant-loop
invariant-loop g l =
    TakesTurns has_queues (meaning g.P.Service.Service.reply_of g.P.Service.Service.after) (telling g.P.Device.VhostUserBackendMut.said g.P.Device.VhostUserBackendMut.moved)
    l.initial.self l.self (g.P.Parts.state l.initial.parts) (g.P.Parts.state l.parts)
    × ServesTo (phase_of l.self)
