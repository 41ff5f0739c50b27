use Rattle.std.proofs.Common.{None, ◌≤◌}
use Rattle.vub_vring.specs.Calls.{telling}
use Rattle.vub_attend.specs.Attending.{Attends}
use Rattle.vub_attend.proofs.attending.attend.Given as goal

abbrev pub invariant-loop : goal.invariant-loop
invariant-loop g l = record {
  attends : Attends (telling g.P.Device.VhostUserBackendMut.said g.P.Device.VhostUserBackendMut.moved) None
      l.initial.handler l.handler (g.P.Parts.state l.initial.parts) (g.P.Parts.state l.parts) (g.K.Link.talk l.initial.link) (g.K.Link.talk l.link);
  later : g.K.Link.fault_count l.initial.link ≤ g.K.Link.fault_count l.link;
}
