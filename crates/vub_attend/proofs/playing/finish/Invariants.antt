use Rattle.std.proofs.Common.{None}
use Rattle.vub_vring.specs.Calls.{telling}
use Rattle.vub_requests.specs.Handling.{PlaysAll}
use Rattle.vub_attend.proofs.playing.finish.Given as goal

abbrev pub invariant-loop : goal.invariant-loop
invariant-loop g l =
    PlaysAll (telling g.P.Device.VhostUserBackendMut.said g.P.Device.VhostUserBackendMut.moved) None
    l.initial.handler l.handler l.initial.half l.half (g.P.Parts.state l.initial.parts) (g.P.Parts.state l.parts)
