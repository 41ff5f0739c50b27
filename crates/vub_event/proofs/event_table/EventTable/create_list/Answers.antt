use Rattle.vub_event.proofs.Readying.{list_push}
use Rattle.vub_event.proofs.event_table.EventTable.create_list.Goals as goal

pub invariant_of-self-in-Ok : goal.invariant_of-self-in-Ok
invariant_of-self-in-Ok c = rw (c.in-Ok.ensures.items, c.in_ok-push.ensures.items, c.new-2.ensures, c.new.ensures) (list_push _ _ _ c.self.invariant)
