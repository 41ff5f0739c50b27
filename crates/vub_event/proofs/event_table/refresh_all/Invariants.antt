use Rattle.vub_event.proofs.Readying.{RefreshSo}
use Rattle.vub_event.proofs.event_table.refresh_all.Given as goal

abbrev pub invariant-loop-i : goal.invariant-loop-i
invariant-loop-i l = RefreshSo l.object l.objects l.lists l.ready l.i
