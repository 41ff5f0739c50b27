use Rattle.std.proofs.Common.{Err, refl}
use Rattle.vub_proto.specs.declared.answer.VhostUserError.TheVariants as error
use Rattle.vub_vring.specs.Calls.{telling}
use Rattle.vub_attend.specs.Attending.{err_in}
use Rattle.vub_attend.proofs.Conversing.{attends-none, attends-given, attends-last, lacks-memory}
use Rattle.vub_attend.proofs.attending.attend_next.Goals as goal

pub returns-in_err-request-clause-attends : goal.returns-in_err-request-clause-attends
returns-in_err-request-clause-attends g c =
    attends-none (telling g.P.Device.VhostUserBackendMut.said g.P.Device.VhostUserBackendMut.moved)
    c.args.handler.now (g.P.Parts.state c.args.parts.now) (err_in c.from_residual.result) (g.K.Link.talk c.args.link.now) (g.K.Link.talk c.next.new.self)
    c.in_err-request.ensures.gives

pub returns-in-Ok-clause-attends : goal.returns-in-Ok-clause-attends
returns-in-Ok-clause-attends g c =
    attends-given (telling g.P.Device.VhostUserBackendMut.said g.P.Device.VhostUserBackendMut.moved)
    c.args.handler.now c.reply_to.new.handler (g.P.Parts.state c.args.parts.now) (g.P.Parts.state c.reply_to.new.parts)
    (g.K.Link.talk c.args.link.now) (g.K.Link.talk c.next.new.self) (g.K.Link.talk c.answer.new.self)
    c.in_ok-request.request c.in_ok-request.ensures.gives c.in-Ok.answer c.answer.result c.in-Ok.ensures.replies c.answer.ensures.takes

pub returns-clause-attends : goal.returns-clause-attends
returns-clause-attends g c =
    attends-last (telling g.P.Device.VhostUserBackendMut.said g.P.Device.VhostUserBackendMut.moved)
    c.args.handler.now c.reply_to.new.handler (g.P.Parts.state c.args.parts.now) (g.P.Parts.state c.reply_to.new.parts)
    (g.K.Link.talk c.args.link.now) (g.K.Link.talk c.next.new.self) (g.K.Link.talk c.next.new.self)
    c.in_ok-request.request c.in_ok-request.ensures.gives error.OutOfMemory (Err c.in-Err.field-0) c.in-Err.ensures.replies
    (lacks-memory c.in-Err.field-0 c.in-Err.ensures.memory) refl
