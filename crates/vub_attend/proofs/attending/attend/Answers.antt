use Rattle.std.proofs.Common.{None, Some, refl, arith}
use Rattle.vub_vring.specs.Calls.{telling}
use Rattle.vub_attend.proofs.Conversing.{attends-none, attends-on, error-before}
use Rattle.vub_attend.proofs.attending.attend.Goals as goal

pub loop-init : goal.loop-init
loop-init g c = record {
  attends =
      attends-none (telling g.P.Device.VhostUserBackendMut.said g.P.Device.VhostUserBackendMut.moved)
      c.args.handler.now (g.P.Parts.state c.args.parts.now) None (g.K.Link.talk c.args.link.now) (g.K.Link.talk c.args.link.now) refl;
  later = omega arith;
}

pub loop-preserved : goal.loop-preserved
loop-preserved g c = record {
  attends =
      attends-on (telling g.P.Device.VhostUserBackendMut.said g.P.Device.VhostUserBackendMut.moved) None
      c.args.handler.now c.loop.handler c.attend_next.new.handler (g.P.Parts.state c.args.parts.now) (g.P.Parts.state c.loop.parts) (g.P.Parts.state c.attend_next.new.parts)
      (g.K.Link.talk c.args.link.now) (g.K.Link.talk c.loop.link) (g.K.Link.talk c.attend_next.new.link) c.loop.invariant.attends c.in-Ok.ensures.attends;
  later = omega (arith, c.loop.invariant.later, c.attend_next.ensures.later);
}

pub returns-in-Err-clause-attends : goal.returns-in-Err-clause-attends
returns-in-Err-clause-attends g c =
    attends-on (telling g.P.Device.VhostUserBackendMut.said g.P.Device.VhostUserBackendMut.moved) (Some c.in-Err.end)
    c.args.handler.now c.loop.handler c.attend_next.new.handler (g.P.Parts.state c.args.parts.now) (g.P.Parts.state c.loop.parts) (g.P.Parts.state c.attend_next.new.parts)
    (g.K.Link.talk c.args.link.now) (g.K.Link.talk c.loop.link) (g.K.Link.talk c.attend_next.new.link) c.loop.invariant.attends c.in-Err.ensures.attends

pub returns-in-Err-clause-cause : goal.returns-in-Err-clause-cause
returns-in-Err-clause-cause g c =
    error-before (g.K.Link.fault_count c.args.link.now) (g.K.Link.fault_count c.loop.link) (g.K.Link.fault_count c.attend_next.new.link) c.in-Err.end
    c.loop.invariant.later c.in-Err.ensures.cause
