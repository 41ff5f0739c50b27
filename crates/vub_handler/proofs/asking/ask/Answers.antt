use Rattle.vub_vring.specs.Calls.{telling}
use Rattle.vub_handler.proofs.PartRows.{device_asked}
use Rattle.vub_handler.proofs.asking.ask.Goals as goal

pub returns-in-Ok-clause-row : goal.returns-in-Ok-clause-row
returns-in-Ok-clause-row g c =
    device_asked (telling g.P.Device.VhostUserBackendMut.said g.P.Device.VhostUserBackendMut.moved) c.args.wired.now (g.P.Parts.state c.args.parts.now) (g.P.Parts.state c.device.new.self) c.in-Ok.said c.args.op.now c.in_ok-op.op c.asked.result c.is_refused.result c.in_ok-op.ensures c.asked.ensures c.is_refused.ensures c.in-Ok.ensures.said c.in-Ok.ensures.frame.shared c.in-Ok.ensures.row c.in-Ok.ensures.counted
