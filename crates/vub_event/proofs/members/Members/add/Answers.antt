use Rattle.std.proofs.Common.{not, ap, ◌∙◌}
use Rattle.vub_event.proofs.Placing.{hit, miss, added, ordered-added}
use Rattle.vub_event.proofs.members.Members.add.Goals as goal

pub returns-in-Ok-clause-answer : goal.returns-in-Ok-clause-answer
returns-in-Ok-clause-answer c = rw (← c.self.view_is, ← c.deref.ensures.value) (ap not (hit _ _ _ c.in-Ok.ensures.1))

pub returns-in_ok-insert-in-Err-clause-answer : goal.returns-in_ok-insert-in-Err-clause-answer
returns-in_ok-insert-in-Err-clause-answer c =
    rw (← c.self.view_is, ← c.deref.ensures.value) (ap not (miss _ _ _ c.in-Err.ensures.1))

pub returns-in_ok-insert-in-Err-clause-after : goal.returns-in_ok-insert-in-Err-clause-after
returns-in_ok-insert-in-Err-clause-after c =
    let at = rw c.deref.ensures.value at c.in-Err.ensures.1 in
    rw (← c.self.view_is) (c.in_ok-insert-in-Err.ensures.items ∙ added _ _ _ at)

pub invariant_of-self-in-Err : goal.invariant_of-self-in-Err
invariant_of-self-in-Err c =
    let at = rw c.deref.ensures.value at c.in-Err.ensures.1 in
    rw c.in_ok-insert-in-Err.ensures.items (ordered-added _ _ _ at c.self.invariant)
