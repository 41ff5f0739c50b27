use Rattle.vub_model.specs.Service.{meaning}
use Rattle.vub_vring.specs.Calls.{telling}
use Rattle.vub_loop.proofs.Looping.{turns-on, turns-untouched}
use Rattle.vub_loop.proofs.handler.VringEpollHandler.go_on_or_wait.Goals as goal

pub returns-clause-turn : goal.returns-clause-turn
returns-clause-turn g c is_kind is =
    let m = meaning g.P.Service.Service.reply_of g.P.Service.Service.after in
    let t = telling g.P.Device.VhostUserBackendMut.said g.P.Device.VhostUserBackendMut.moved in
    turns-on m t is_kind c.args.self.now c.go_on.new.self c.go_on.new.self (g.P.Parts.state c.args.parts.now) (g.P.Parts.state c.go_on.new.parts) (g.P.Parts.state c.wait_after.new.parts)
    (c.go_on.ensures.turn is_kind is) (turns-untouched m t is_kind c.go_on.new.self (g.P.Parts.state c.go_on.new.parts) (g.P.Parts.state c.wait_after.new.parts) c.wait_after.ensures)
