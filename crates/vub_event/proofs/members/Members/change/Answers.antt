use Rattle.vub_event.proofs.Placing.{hit, miss, changed, ordered-changed}
use Rattle.vub_event.proofs.members.Members.change.Goals as goal

pub invariant_of-self : goal.invariant_of-self
invariant_of-self c =
    let at = rw c.deref.ensures.value at c.in-Ok.ensures in
    ordered-changed _ _ _ at.0 at.1 c.self.invariant

pub returns-in-Ok-clause-answer : goal.returns-in-Ok-clause-answer
returns-in-Ok-clause-answer c = rw (← c.self.view_is, ← c.deref.ensures.value) (hit _ _ _ c.in-Ok.ensures.1)

pub returns-in-Ok-clause-after : goal.returns-in-Ok-clause-after
returns-in-Ok-clause-after c =
    let at = rw c.deref.ensures.value at c.in-Ok.ensures in
    rw (← c.self.view_is) (changed _ _ _ at.0 at.1)

pub returns-in-Err-clause-answer : goal.returns-in-Err-clause-answer
returns-in-Err-clause-answer c = rw (← c.self.view_is, ← c.deref.ensures.value) (miss _ _ _ c.in-Err.ensures.1)
