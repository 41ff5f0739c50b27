use Rattle.std.proofs.Common.{◌<◌, ◌^◌, sym, ap, ◌∙◌, drop, slice_get, subst, arith}
use Rattle.vub_ring.specs.Pending.{AscendsFrom}
use Rattle.vub_ring.proofs.Words.{first-of, none-of, set-ascends, ascends-drop, popped}
use Rattle.vub_ring.proofs.pending.Pending.take_first.Goals as goal

pub invariant_of-self : goal.invariant_of-self
invariant_of-self c = subst (AscendsFrom 64) (sym c.pop_front.ensures.rest) (ascends-drop 64 _ c.self.invariant)

pub returns-then-self-eq0-clause-first : goal.returns-then-self-eq0-clause-first
returns-then-self-eq0-clause-first c =
    popped _ _ _ c.pop_front.ensures.items c.pop_front.ensures.rest ∙ ap (λ ns. slice_get ns 0) (sym (none-of c.self.inside.word _ c.if-self-eq0.true) ∙ c.self.view_is)

pub returns-then-self-eq0-clause-rest : goal.returns-then-self-eq0-clause-rest
returns-then-self-eq0-clause-rest c =
    none-of c.self.inside.word _ c.if-self-eq0.true ∙ c.pop_front.ensures.rest ∙ ap (drop 1) (sym (none-of c.self.inside.word _ c.if-self-eq0.true) ∙ c.self.view_is)

pub returns-then-self-eq0-clause-ascends : goal.returns-then-self-eq0-clause-ascends
returns-then-self-eq0-clause-ascends c = rw (← c.self.view_is) (set-ascends _ _ c.self.invariant)

pub returns-clause-first : goal.returns-clause-first
returns-clause-first c =
    let fits : c.self.inside.word < 2 ^ 64 = omega arith in
    ap (λ ns. slice_get ns 0) (sym (first-of _ _ _ (omega (arith, c.if-self-eq0.false)) fits c.with_bit-self-inside.ensures) ∙ c.self.view_is)

pub returns-clause-rest : goal.returns-clause-rest
returns-clause-rest c =
    let fits : c.self.inside.word < 2 ^ 64 = omega arith in
    ap (drop 1) (sym (first-of _ _ _ (omega (arith, c.if-self-eq0.false)) fits c.with_bit-self-inside.ensures) ∙ c.self.view_is)

pub returns-clause-ascends : goal.returns-clause-ascends
returns-clause-ascends c = rw (← c.self.view_is) (set-ascends _ _ c.self.invariant)
