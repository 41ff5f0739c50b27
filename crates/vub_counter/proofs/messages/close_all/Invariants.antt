use Rattle.std.proofs.Common.{◌≡◌, drop}
use Rattle.vub_base.specs.Told.{Told}
use Rattle.vub_counter.specs.Messages.{closed}
use Rattle.vub_counter.proofs.messages.close_all.Given as goal

abbrev pub invariant-loop-object : goal.invariant-loop-object
invariant-loop-object g l = record {
  faults : g.H.Host.fault_count l.host ≡ g.H.Host.fault_count l.initial.host;
  still : g.H.Host.never_fails l.initial.host → g.H.Host.never_fails l.host;
  table : Told (g.H.Host.held l.initial.host) (g.H.Host.held l.host)
      (λ old now. closed now (drop l.object-index l.objects) ≡ closed old l.objects);
}
