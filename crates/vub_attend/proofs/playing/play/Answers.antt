use Rattle.vub_vring.specs.Calls.{telling}
use Rattle.vub_requests.proofs.Plays.{handled}
use Rattle.vub_attend.proofs.playing.play.Goals as goal

pub returns-in-Ok-clause-handled : goal.returns-in-Ok-clause-handled
returns-in-Ok-clause-handled g c =
    handled (telling g.P.Device.VhostUserBackendMut.said g.P.Device.VhostUserBackendMut.moved) c.args.request.now
    c.args.handler.now c.finish.new.handler c.in-Ok.half c.finish.new.half (g.P.Parts.state c.args.parts.now) (g.P.Parts.state c.finish.new.parts) c.finish.result
    c.in-Ok.ensures c.finish.ensures.finishes
