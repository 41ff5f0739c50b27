use Rattle.std.proofs.Common.{Ok}
use Rattle.vub_base.specs.Told.{Told}
use Rattle.vub_event.specs.Faults.{CountsFaults}
use Rattle.vub_event.proofs.WriteLaws.{WroteFirst}
use Rattle.vub_event.proofs.laws.writes_then_read.Given as goal

abbrev pub invariant-loop-value : goal.invariant-loop-value
invariant-loop-value g l = record {
  faults : CountsFaults {T = Unit {0}} (g.H.Host.fault_count l.initial.host) (g.H.Host.fault_count l.host) (g.H.Host.never_fails l.initial.host) (g.H.Host.never_fails l.host) (Ok tt);
  table : Told (g.H.Host.held l.initial.host) (g.H.Host.held l.host) (WroteFirst l.object l.values l.value-index);
}
