use Rattle.std.proofs.Common.{refl, arith}
use Rattle.vub_vring.specs.Calls.{telling}
use Rattle.vub_requests.proofs.Plays.{plays-none, plays-going, nearer-going, finishes-done, finishes-waits, finishes-err}
use Rattle.vub_requests.proofs.handling.finish.Goals as goal

pub loop-answer-init : goal.loop-answer-init
loop-answer-init g c =
    plays-none (telling g.P.Device.VhostUserBackendMut.said g.P.Device.VhostUserBackendMut.moved)
    c.args.handler.now c.args.handler.now c.args.half.now c.args.half.now (g.P.Parts.state c.args.parts.now) (g.P.Parts.state c.args.parts.now) refl refl refl refl
    record {
      later = omega (arith);
      refusals = omega (arith);
      still = λ s. s;
      loan = refl;
      constants = refl;
    }

pub loop-answer-smaller : goal.loop-answer-smaller
loop-answer-smaller g c =
    nearer-going (telling g.P.Device.VhostUserBackendMut.said g.P.Device.VhostUserBackendMut.moved)
    c.args.handler.now c.loop-answer.handler c.step.new.self c.args.half.now c.loop-answer.half c.step.new.half
    (g.P.Parts.state c.args.parts.now) (g.P.Parts.state c.loop-answer.parts) (g.P.Parts.state c.step.new.parts) c.loop-answer.invariant
    c.in-Ok-Going.field-0 c.in-Ok-Going.field-0-is c.in-Ok-Going.ensures.moves

pub loop-answer-preserved : goal.loop-answer-preserved
loop-answer-preserved g c =
    plays-going (telling g.P.Device.VhostUserBackendMut.said g.P.Device.VhostUserBackendMut.moved)
    c.args.handler.now c.loop-answer.handler c.step.new.self c.args.half.now c.loop-answer.half c.step.new.half
    (g.P.Parts.state c.args.parts.now) (g.P.Parts.state c.loop-answer.parts) (g.P.Parts.state c.step.new.parts) c.loop-answer.invariant
    c.in-Ok-Going.field-0 c.in-Ok-Going.field-0-is c.in-Ok-Going.ensures.row c.in-Ok-Going.ensures.frame.wiring c.in-Ok-Going.ensures.frame.lasts

pub returns-in-Ok-Waits : goal.returns-in-Ok-Waits
returns-in-Ok-Waits g c =
    finishes-waits (telling g.P.Device.VhostUserBackendMut.said g.P.Device.VhostUserBackendMut.moved)
    c.args.handler.now c.loop-answer.handler c.step.new.self c.args.half.now c.loop-answer.half c.step.new.half
    (g.P.Parts.state c.args.parts.now) (g.P.Parts.state c.loop-answer.parts) (g.P.Parts.state c.step.new.parts) c.loop-answer.invariant
    c.in-Ok-Waits.field-0 c.in-Ok-Waits.field-0-is c.in-Ok-Waits.ensures.row c.in-Ok-Waits.ensures.frame.lasts

pub returns-in-Ok-Done : goal.returns-in-Ok-Done
returns-in-Ok-Done g c =
    finishes-done (telling g.P.Device.VhostUserBackendMut.said g.P.Device.VhostUserBackendMut.moved)
    c.args.handler.now c.loop-answer.handler c.step.new.self c.args.half.now c.loop-answer.half c.step.new.half
    (g.P.Parts.state c.args.parts.now) (g.P.Parts.state c.loop-answer.parts) (g.P.Parts.state c.step.new.parts) c.loop-answer.invariant
    c.in-Ok-Done.field-0 c.in-Ok-Done.answer c.in-Ok-Done.field-0-is c.in-Ok-Done.ensures.row c.in-Ok-Done.ensures.moves c.in-Ok-Done.ensures.frame.wiring c.in-Ok-Done.ensures.frame.lasts

pub returns-in-Err : goal.returns-in-Err
returns-in-Err g c =
    finishes-err (telling g.P.Device.VhostUserBackendMut.said g.P.Device.VhostUserBackendMut.moved)
    c.args.handler.now c.loop-answer.handler c.step.new.self c.args.half.now c.loop-answer.half c.step.new.half
    (g.P.Parts.state c.args.parts.now) (g.P.Parts.state c.loop-answer.parts) (g.P.Parts.state c.step.new.parts) c.loop-answer.invariant
    c.in-Err.ensures.frame.player c.in-Err.ensures.frame.half c.in-Err.ensures.frame.shared c.in-Err.ensures.frame.device c.in-Err.ensures.frame.lasts
