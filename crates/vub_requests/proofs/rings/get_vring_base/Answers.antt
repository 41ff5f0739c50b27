use Rattle.vub_vring.specs.Calls.{telling}
use Rattle.vub_requests.proofs.OffList.{stop_takes_off}
use Rattle.vub_requests.proofs.rings.get_vring_base.Goals as goal

pub returns-clause-off : goal.returns-clause-off
returns-clause-off g c =
    stop_takes_off (telling g.P.Device.VhostUserBackendMut.said g.P.Device.VhostUserBackendMut.moved) c.args.handler.now c.handle.new.handler
    (g.P.Parts.state c.args.parts.now) (g.P.Parts.state c.handle.new.parts) c.handle.result c.args.queue c.handle.ensures
