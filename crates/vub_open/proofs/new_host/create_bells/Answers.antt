use Rattle.std.proofs.Common.{Some, ap, ◌∙◌}
use Rattle.vub_event.specs.HostCalls.{new_event, create_event_after}
use Rattle.vub_open.proofs.NewLists.{constant_next}
use Rattle.vub_open.proofs.new_host.create_bells.Goals as goal

pub loop-mask-preserved : goal.loop-mask-preserved
unfolding create_event_after
loop-mask-preserved c = record {
  objects = constant_next (Some (new_event 0)) _ _ _ _ _ c.loop-mask-test.true c.loop-mask.invariant.objects (ap (λ t. t.objects) c.in_ok-create_event.ensures.table);
  lists = ap (λ t. t.lists) c.in_ok-create_event.ensures.table ∙ c.loop-mask.invariant.lists;
  sound = c.create_event.ensures.sound;
}
