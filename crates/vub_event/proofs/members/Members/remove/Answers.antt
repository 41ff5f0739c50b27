use Rattle.std.proofs.Common.{◌∙◌}
use Rattle.vub_event.proofs.Placing.{hit, miss, removed, kept, ordered-removed}
use Rattle.vub_event.proofs.members.Members.remove.Goals as goal

pub invariant_of-self : goal.invariant_of-self
invariant_of-self c =
    let at = rw c.deref.ensures.value at c.in-Ok.ensures.1 in
    rw c.remove-removed.ensures.items (ordered-removed _ _ _ at c.self.invariant)

pub returns-in-Ok-clause-answer : goal.returns-in-Ok-clause-answer
returns-in-Ok-clause-answer c = rw (← c.self.view_is, ← c.deref.ensures.value) (hit _ _ _ c.in-Ok.ensures.1)

pub returns-in-Ok-clause-after : goal.returns-in-Ok-clause-after
returns-in-Ok-clause-after c =
    let at = rw c.deref.ensures.value at c.in-Ok.ensures.1 in
    rw (← c.self.view_is) (c.remove-removed.ensures.items ∙ removed _ _ _ at)

pub returns-in-Ok-clause-without : goal.returns-in-Ok-clause-without
returns-in-Ok-clause-without c =
    let at = rw c.deref.ensures.value at c.in-Ok.ensures.1 in
    rw (← c.self.view_is) (c.remove-removed.ensures.items ∙ removed _ _ _ at)

pub returns-in-Err-clause-answer : goal.returns-in-Err-clause-answer
returns-in-Err-clause-answer c = rw (← c.self.view_is, ← c.deref.ensures.value) (miss _ _ _ c.in-Err.ensures.1)

pub returns-in-Err-clause-without : goal.returns-in-Err-clause-without
returns-in-Err-clause-without c = rw (← c.self.view_is, ← c.deref.ensures.value) (kept _ _ _ c.in-Err.ensures.1)
