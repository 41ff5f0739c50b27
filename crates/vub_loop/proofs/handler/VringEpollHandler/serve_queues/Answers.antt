use Rattle.std.proofs.Common.{ap, sym, ◌∙◌}
use Rattle.vub_model.specs.Service.{meaning}
use Rattle.vub_vring.specs.Calls.{telling}
use Rattle.vub_loop.specs.Handler.{phase_of}
use Rattle.vub_loop.specs.Phases.{has_queues}
use Rattle.vub_loop.proofs.Looping.{turns-begin, turns-more, queues-serve}
use Rattle.vub_loop.proofs.handler.VringEpollHandler.serve_queues.Goals as goal

pub loop-init : goal.loop-init
loop-init g c = (
  turns-begin (meaning g.P.Service.Service.reply_of g.P.Service.Service.after) (telling g.P.Device.VhostUserBackendMut.said g.P.Device.VhostUserBackendMut.moved)
      has_queues c.args.self.now (g.P.Parts.state c.args.parts.now),
  queues-serve (phase_of c.args.self.now) c.requires,
)

pub loop-preserved : goal.loop-preserved
loop-preserved g c =
    let is = ap has_queues (sym c.phase.ensures.same) ∙ sym c.has_queues.ensures ∙ c.if-not-has_queues.false in (
      turns-more (meaning g.P.Service.Service.reply_of g.P.Service.Service.after) (telling g.P.Device.VhostUserBackendMut.said g.P.Device.VhostUserBackendMut.moved)
          has_queues c.args.self.now c.loop.self c.serve_on.new.self (g.P.Parts.state c.args.parts.now) (g.P.Parts.state c.loop.parts) (g.P.Parts.state c.serve_on.new.parts)
          c.loop.invariant.0 is c.serve_on.ensures.turn,
      c.in_ok-serve_on.ensures.leads is,
    )

pub returns-in_err-serve_on-clause-turns : goal.returns-in_err-serve_on-clause-turns
returns-in_err-serve_on-clause-turns g c =
    turns-more (meaning g.P.Service.Service.reply_of g.P.Service.Service.after) (telling g.P.Device.VhostUserBackendMut.said g.P.Device.VhostUserBackendMut.moved)
    has_queues c.args.self.now c.loop.self c.serve_on.new.self (g.P.Parts.state c.args.parts.now) (g.P.Parts.state c.loop.parts) (g.P.Parts.state c.serve_on.new.parts)
    c.loop.invariant.0 (ap has_queues (sym c.phase.ensures.same) ∙ sym c.has_queues.ensures ∙ c.if-not-has_queues.false) c.serve_on.ensures.turn
