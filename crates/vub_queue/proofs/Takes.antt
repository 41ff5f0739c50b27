-- A ring in a memory gives one answer.
use Rattle.std.proofs.Common.{◌≡◌, ℕ, ◌⊎◌, inl, inr, ◌+◌, ◌==◌, Bool, true, false, not, cond, nat_lt, true≢false, refl, sym, ap, subst, ◌∙◌}
use Rattle.vub_mem.specs.Memory.{Guest}
use Rattle.vub_queue.specs.Chain.{IsChain, chain_of}
use Rattle.std.specs.Int.{w16}
use Rattle.vub_mem.specs.Place.{covers, number_at}
use Rattle.vub_queue.specs.EntryNumber.{index_covers, left_of}
use Rattle.vub_queue.specs.Layout.{avail_slot_at, table_of}
use Rattle.vub_queue.specs.Ring.{Ring}
use Rattle.vub_queue.specs.Take.{Costs, IsDamaged, IsEntry, Taken, event_covers, head_of}
use Rattle.vub_queue.specs.Walk.{FailsFirst}
use Rattle.vub_queue.proofs.Chains.{links_one, chain_whole, fails_one}
use Rattle.vub_queue.specs.declared.chain.Chain.{Chain}
use Rattle.vub_queue.specs.declared.damage.Damage.{Damage}
use Rattle.vub_queue.specs.declared.damage.Damage.TheVariants.{TooLong, RingOutside, IndexAhead}
use Rattle.vub_queue.specs.declared.head.Head.{Head}
use Rattle.vub_queue.specs.declared.head.Head.TheVariants.{Empty, At, Broken}
use Rattle.vub_queue.specs.declared.took.Took.{Took}
use Rattle.vub_queue.specs.declared.took.Took.TheVariants as took

same_head : (h : Head) (a b : ℕ) → h ≡ At a → h ≡ At b → a ≡ b
same_head h a b p q = cc

same_broken : (h : Head) (a b : Damage) → h ≡ Broken a → h ≡ Broken b → a ≡ b
same_broken h a b p q = cc

broken_at : (h : Head) (a : ℕ) (b : Damage) → h ≡ At a → h ≡ Broken b → ⊥
broken_at h a b p q = cc

broken_empty : (h : Head) (b : Damage) → h ≡ Empty → h ≡ Broken b → ⊥
broken_empty h b p q = cc

at_empty : (h : Head) (a : ℕ) → h ≡ Empty → h ≡ At a → ⊥
at_empty h a p q = cc

one_entry : (g : Guest) (r : Ring) (c e : Chain) → IsEntry g r c → IsEntry g r e → c ≡ e
one_entry g r c e p q =
    let head : c.head ≡ e.head = same_head (head_of g r) c.head e.head p.1 q.1 in
    let chain : IsChain g (table_of r) c.head q.0 = subst (λ h. IsChain g (table_of r) h q.0) (sym head) q.2 in
    let same : p.0 ≡ q.0 = links_one g (table_of r) c.head p.0 q.0 p.2.links chain.links in
    p.3 ∙ ap (λ ds. chain_of g c.head ds) same ∙ ap (λ h. chain_of g h q.0) head ∙ sym q.3

entry_or_damage : (g : Guest) (r : Ring) (c : Chain) (d : Damage) → IsEntry g r c → IsDamaged g r d → ⊥
entry_or_damage g r c d p (inl e) = broken_at (head_of g r) c.head d p.1 e
entry_or_damage g r c d p (inr e) =
    let head : c.head ≡ e.0 = same_head (head_of g r) c.head e.0 p.1 e.1 in
    chain_whole g (table_of r) e.0 p.0 d (subst (λ h. IsChain g (table_of r) h p.0) head p.2) e.2

one_damage : (g : Guest) (r : Ring) (a b : Damage) → IsDamaged g r a → IsDamaged g r b → a ≡ b
one_damage g r a b (inl p) (inl q) = same_broken (head_of g r) a b p q
one_damage g r a b (inl p) (inr q) = absurd (broken_at (head_of g r) q.0 a q.1 p)
one_damage g r a b (inr p) (inl q) = absurd (broken_at (head_of g r) p.0 b p.1 q)
one_damage g r a b (inr p) (inr q) =
    let head : p.0 ≡ q.0 = same_head (head_of g r) p.0 q.0 p.1 q.1 in
    fails_one g (table_of r) q.0 a b (subst (λ h. FailsFirst g (table_of r) h a) head p.2) q.2

empty_or_damage : (g : Guest) (r : Ring) (d : Damage) → head_of g r ≡ Empty → IsDamaged g r d → ⊥
empty_or_damage g r d p (inl e) = broken_empty (head_of g r) d p e
empty_or_damage g r d p (inr e) = at_empty (head_of g r) e.0 p e.1

not_published : (e c : Bool) → ((e ≡ false) ⊎ (c ≡ true)) → e ≡ true → c ≡ false → ⊥
not_published e c (inl off) on none = true≢false (sym on ∙ off)
not_published e c (inr all) on none = true≢false (sym all ∙ none)

nothing_or_damage : (g : Guest) (r : Ring) (d : Damage) → Taken g r took.None → Taken g r (took.Damaged d) → ⊥
nothing_or_damage g r d p (inl q) = empty_or_damage g r d p.0 q
nothing_or_damage g r d p (inr q) = not_published r.event_idx (event_covers g r) p.1 q.1 q.2

entry_or_damage_here : (g : Guest) (r : Ring) (c : Chain) (d : Damage) → IsEntry g r c → Taken g r (took.Damaged d) → ⊥
entry_or_damage_here g r c d p (inl q) = entry_or_damage g r c d p q
entry_or_damage_here g r c d p (inr q) = at_empty (head_of g r) c.head q.0 p.1

one_damage_here : (g : Guest) (r : Ring) (a b : Damage) → Taken g r (took.Damaged a) → Taken g r (took.Damaged b) → a ≡ b
one_damage_here g r a b (inl p) (inl q) = one_damage g r a b p q
one_damage_here g r a b (inl p) (inr q) = absurd (empty_or_damage g r a q.0 p)
one_damage_here g r a b (inr p) (inl q) = absurd (empty_or_damage g r b p.0 q)
one_damage_here g r a b (inr p) (inr q) = p.3 ∙ sym q.3

pub taken_one : (g : Guest) (r : Ring) (t u : Took) → Taken g r t → Taken g r u → t ≡ u
taken_one g r (took.Entry c) (took.Entry e) p q = ap took.Entry (one_entry g r c e p q)
taken_one g r (took.Entry c) took.None p q = absurd (at_empty (head_of g r) c.head q.0 p.1)
taken_one g r (took.Entry c) (took.Damaged d) p q = absurd (entry_or_damage_here g r c d p q)
taken_one g r took.None (took.Entry e) p q = absurd (at_empty (head_of g r) e.head p.0 q.1)
taken_one g r took.None took.None p q = refl
taken_one g r took.None (took.Damaged d) p q = absurd (nothing_or_damage g r d p q)
taken_one g r (took.Damaged d) (took.Entry e) p q = absurd (entry_or_damage_here g r e d q p)
taken_one g r (took.Damaged d) took.None p q = absurd (nothing_or_damage g r d q p)
taken_one g r (took.Damaged d) (took.Damaged e) p q = ap took.Damaged (one_damage_here g r d e p q)

-- the available ring's own tests find no chain too long
tests_not_long : (a b c d : Bool) (n : ℕ) → cond a (Broken RingOutside) (cond b (Broken IndexAhead) (cond c Empty (cond d (Broken RingOutside) (At n)))) ≡ Broken TooLong → ⊥
tests_not_long true b c d n e = cc
tests_not_long false true c d n e = cc
tests_not_long false false true d n e = cc
tests_not_long false false false true n e = cc
tests_not_long false false false false n e = cc

head_not_long : (g : Guest) (r : Ring) → head_of g r ≡ Broken TooLong → ⊥
unfolding head_of
head_not_long g r e = tests_not_long (not (index_covers g r)) (nat_lt r.size (left_of g r)) (left_of g r == 0) (not (covers g.regions (avail_slot_at r) 2)) (number_at w16 g (avail_slot_at r)) e

too_long : TooLong ≡ RingOutside → ⊥
too_long e = cc

-- a chain that is too long costs as many steps as the table has descriptors
pub long_cost : (g : Guest) (r : Ring) (t : Took) (old new : ℕ) → Taken g r t → Costs g r old new t → t ≡ took.Damaged TooLong → new ≡ old + r.size
long_cost g r t old new taken cost is =
    let damaged : Taken g r (took.Damaged TooLong) = subst (λ x. Taken g r x) is taken in
    let costs : Costs g r old new (took.Damaged TooLong) = subst (λ x. Costs g r old new x) is cost in
    elim costs [
      | inr walk ↦ walk.2.4
      | inl none ↦ elim none.0 [
        | inl broken ↦ absurd (head_not_long g r broken)
        | inr empty ↦ elim damaged [
          | inl looked ↦ absurd (empty_or_damage g r TooLong empty looked)
          | inr event ↦ absurd (too_long event.3)
        ]
      ]
    ]
