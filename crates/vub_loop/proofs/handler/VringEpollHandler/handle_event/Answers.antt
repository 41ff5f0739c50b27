use Rattle.vub_model.specs.Service.{meaning}
use Rattle.vub_vring.specs.Calls.{telling}
use Rattle.vub_loop.specs.Phases.{has_queues}
use Rattle.vub_loop.proofs.Looping.{turns-begin}
use Rattle.vub_loop.proofs.handler.VringEpollHandler.handle_event.Goals as goal

pub returns-then-not-has_queues-clause-turns : goal.returns-then-not-has_queues-clause-turns
returns-then-not-has_queues-clause-turns g c =
    turns-begin (meaning g.P.Service.Service.reply_of g.P.Service.Service.after) (telling g.P.Device.VhostUserBackendMut.said g.P.Device.VhostUserBackendMut.moved)
    has_queues c.args.self.now (g.P.Parts.state c.args.parts.now)
