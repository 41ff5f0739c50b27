use Rattle.vub_model.specs.Service.{meaning}
use Rattle.vub_vring.specs.Calls.{telling}
use Rattle.vub_loop.proofs.Looping.{turn-made}
use Rattle.vub_loop.proofs.handler.VringEpollHandler.go_on.Goals as goal

pub returns-clause-turn : goal.returns-clause-turn
returns-clause-turn g c =
    turn-made (meaning g.P.Service.Service.reply_of g.P.Service.Service.after) (telling g.P.Device.VhostUserBackendMut.said g.P.Device.VhostUserBackendMut.moved)
    c.args.self.now c.turn.new.self (g.P.Parts.state c.args.parts.now) (g.P.Parts.state c.turn.new.parts) c.turn.result c.turn.ensures.row c.turn.ensures.least c.turn.ensures.phase c.turn.ensures.device c.turn.ensures.frame
