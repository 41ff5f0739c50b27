use Rattle.std.proofs.Common.{refl}
use Rattle.vub_vring.specs.Calls.{telling}
use Rattle.vub_requests.proofs.Plays.{plays-none, finishes-err}
use Rattle.vub_attend.proofs.Finishing.{plays-on, finishes-on}
use Rattle.vub_attend.proofs.Replying.{lasts-always}
use Rattle.vub_attend.proofs.playing.finish.Goals as goal

pub loop-init : goal.loop-init
loop-init g c =
    plays-none (telling g.P.Device.VhostUserBackendMut.said g.P.Device.VhostUserBackendMut.moved)
    c.args.handler.now c.args.handler.now c.args.half.now c.args.half.now (g.P.Parts.state c.args.parts.now) (g.P.Parts.state c.args.parts.now)
    refl refl refl refl (lasts-always (g.P.Parts.state c.args.parts.now))

pub loop-preserved : goal.loop-preserved
loop-preserved g c =
    plays-on (telling g.P.Device.VhostUserBackendMut.said g.P.Device.VhostUserBackendMut.moved)
    c.args.handler.now c.loop.handler c.advance.new.handler c.args.half.now c.loop.half c.advance.new.half
    (g.P.Parts.state c.args.parts.now) (g.P.Parts.state c.loop.parts) (g.P.Parts.state c.advance.new.parts) c.loop.invariant
    c.in-Ok-None.field-0 c.in-Ok-None.field-0-is c.in-Ok-None.ensures.row c.in-Ok-None.ensures.frame.wiring c.in-Ok-None.ensures.frame.lasts

pub returns-in-Ok-Some-clause-finishes : goal.returns-in-Ok-Some-clause-finishes
returns-in-Ok-Some-clause-finishes g c =
    finishes-on (telling g.P.Device.VhostUserBackendMut.said g.P.Device.VhostUserBackendMut.moved)
    c.args.handler.now c.loop.handler c.advance.new.handler c.args.half.now c.loop.half c.advance.new.half
    (g.P.Parts.state c.args.parts.now) (g.P.Parts.state c.loop.parts) (g.P.Parts.state c.advance.new.parts) c.loop.invariant
    c.in-Ok-Some.field-0 c.in-Ok-Some.answer c.in-Ok-Some.field-0-is c.in-Ok-Some.ensures.row c.in-Ok-Some.ensures.frame.wiring c.in-Ok-Some.ensures.frame.lasts

pub returns-in-Err-clause-finishes : goal.returns-in-Err-clause-finishes
returns-in-Err-clause-finishes g c =
    finishes-err (telling g.P.Device.VhostUserBackendMut.said g.P.Device.VhostUserBackendMut.moved)
    c.args.handler.now c.loop.handler c.advance.new.handler c.args.half.now c.loop.half c.advance.new.half
    (g.P.Parts.state c.args.parts.now) (g.P.Parts.state c.loop.parts) (g.P.Parts.state c.advance.new.parts) c.loop.invariant
    c.in-Err.ensures.frame.player c.in-Err.ensures.frame.half c.in-Err.ensures.frame.shared c.in-Err.ensures.frame.device c.in-Err.ensures.frame.lasts
