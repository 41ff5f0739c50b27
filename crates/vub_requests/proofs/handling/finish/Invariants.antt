use Rattle.std.proofs.Common.{None}
use Rattle.vub_vring.specs.Calls.{telling}
use Rattle.vub_handler.specs.Playing.{left_of}
use Rattle.vub_requests.specs.Handling.{PlaysAll}
use Rattle.vub_requests.proofs.handling.finish.Given as goal

abbrev pub invariant-loop-answer : goal.invariant-loop-answer
invariant-loop-answer g l =
    PlaysAll (telling g.P.Device.VhostUserBackendMut.said g.P.Device.VhostUserBackendMut.moved) None
    l.initial.handler l.handler l.initial.half l.half (g.P.Parts.state l.initial.parts) (g.P.Parts.state l.parts)

abbrev pub decreases-loop-answer : goal.decreases-loop-answer
decreases-loop-answer g l = left_of l.half
