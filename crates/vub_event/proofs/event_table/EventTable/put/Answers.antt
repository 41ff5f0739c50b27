use Rattle.vub_event.proofs.Readying.{object_set}
use Rattle.vub_event.proofs.event_table.EventTable.put.Goals as goal

pub refresh_all-requires : goal.refresh_all-requires
refresh_all-requires c = rw (c.deref.ensures.value, c.deref-then-object-len.ensures.value, c.deref_mut.ensures.value) (object_set _ _ _ _ _ c.self.invariant)
