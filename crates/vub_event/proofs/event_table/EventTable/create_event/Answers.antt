use Rattle.vub_event.proofs.Readying.{object_push}
use Rattle.vub_event.proofs.event_table.EventTable.create_event.Goals as goal

pub invariant_of-self-2 : goal.invariant_of-self-2
invariant_of-self-2 c = rw c.in_ok-push.ensures.items (object_push _ _ _ _ c.self.invariant)
