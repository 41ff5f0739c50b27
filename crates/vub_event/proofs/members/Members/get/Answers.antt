use Rattle.vub_event.proofs.Placing.{got, missed}
use Rattle.vub_event.proofs.members.Members.get.Goals as goal

pub returns-in-Ok : goal.returns-in-Ok
returns-in-Ok c =
    rw (← c.self.view_is, ← c.deref.ensures.value)
    (got _ _ _ _ c.in-Ok.ensures.1 (rw c.deref.ensures.value c.index.ensures))

pub returns-in-Err : goal.returns-in-Err
returns-in-Err c = rw (← c.self.view_is, ← c.deref.ensures.value) (missed _ _ _ c.in-Err.ensures.1)
