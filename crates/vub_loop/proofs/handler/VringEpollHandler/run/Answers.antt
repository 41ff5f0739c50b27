use Rattle.std.proofs.Common.{is_none, ap, sym, ◌∙◌}
use Rattle.vub_model.specs.Service.{meaning}
use Rattle.vub_vring.specs.Calls.{telling}
use Rattle.vub_loop.specs.Looping.{stop_in, is_going}
use Rattle.vub_loop.proofs.Looping.{turns-begin, turns-more}
use Rattle.vub_loop.proofs.handler.VringEpollHandler.run.Goals as goal

pub loop-init : goal.loop-init
loop-init g c =
    turns-begin (meaning g.P.Service.Service.reply_of g.P.Service.Service.after) (telling g.P.Device.VhostUserBackendMut.said g.P.Device.VhostUserBackendMut.moved)
    is_going c.args.self.now (g.P.Parts.state c.args.parts.now)

pub loop-preserved : goal.loop-preserved
loop-preserved g c =
    turns-more (meaning g.P.Service.Service.reply_of g.P.Service.Service.after) (telling g.P.Device.VhostUserBackendMut.said g.P.Device.VhostUserBackendMut.moved)
    is_going c.args.self.now c.loop.self c.go_on_or_wait.new.self (g.P.Parts.state c.args.parts.now) (g.P.Parts.state c.loop.parts) (g.P.Parts.state c.go_on_or_wait.new.parts)
    c.loop.invariant (ap is_none (ap stop_in (sym c.phase.ensures.same) ∙ sym c.stop_of.ensures ∙ c.in-None-stop_of.is)) c.go_on_or_wait.ensures.turn

pub returns-in_err-go_on_or_wait-in-None-stop_of-clause-turns : goal.returns-in_err-go_on_or_wait-in-None-stop_of-clause-turns
returns-in_err-go_on_or_wait-in-None-stop_of-clause-turns g c =
    turns-more (meaning g.P.Service.Service.reply_of g.P.Service.Service.after) (telling g.P.Device.VhostUserBackendMut.said g.P.Device.VhostUserBackendMut.moved)
    is_going c.args.self.now c.loop.self c.go_on_or_wait.new.self (g.P.Parts.state c.args.parts.now) (g.P.Parts.state c.loop.parts) (g.P.Parts.state c.go_on_or_wait.new.parts)
    c.loop.invariant (ap is_none (ap stop_in (sym c.phase.ensures.same) ∙ sym c.stop_of.ensures ∙ c.in-None-stop_of.is)) c.go_on_or_wait.ensures.turn
