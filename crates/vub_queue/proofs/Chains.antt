-- Laws of linked descriptors.
use Rattle.std.proofs.Common.{◌≡◌, ℕ, ◌+◌, ◌<◌, ◌≤◌, inl, inr, true, false, not, List, [], ◌∷◌, ◌++◌, Some, None, refl, sym, ap, subst, ◌∙◌, arith, length, sum_by, length-append, true≢false, bit_and, ltb, ap₂, map, filter}
use Rattle.std.specs.List.{AllByRecursion}
use Rattle.std.proofs.lemmas.Bool.{eq-eqb, ne_eqb, lt-leb, le-ltb, cases_Bool}
use Rattle.std.proofs.lemmas.List.Sums.{sum_by_push, sum_by-append, sum_by-cons}
use Rattle.vub_mem.specs.Memory.{Guest}
use Rattle.vub_mem.specs.Place.{covers}
use Rattle.vub_queue.specs.declared.descriptor.Descriptor.{Descriptor}
use Rattle.vub_queue.specs.declared.segment.Segment.{Segment}
use Rattle.vub_queue.specs.declared.damage.Damage.{Damage}
use Rattle.vub_queue.specs.Layout.{Table, slot_of}
use Rattle.vub_queue.specs.Chain.{has_next, total, Stands, Links, IsChain, IsCovered, descriptor_at, is_indirect, is_writable, room_of, segments_of, segment_of}
use Rattle.vub_queue.specs.Walk.{CostsFailure, reads_at, Leads, Passes, Fits, fault_of, FailsFirst}

pub leads_more : (g : Guest) (t : Table) (i j : ℕ) (ds : List Descriptor) (d : Descriptor) → Leads g t i ds j → Stands g t j d → has_next d ≡ true → Leads g t i (ds ++ d ∷ []) d.next
leads_more g t i j [] d leads stands next = (subst (λ n. Stands g t n d) (sym leads) stands, next, refl)
leads_more g t i j (e ∷ ds) d leads stands next = (leads.0, leads.1, leads_more g t e.next j ds d leads.2 stands next)

pub links_last : (g : Guest) (t : Table) (i j : ℕ) (ds : List Descriptor) (d : Descriptor) → Leads g t i ds j → Stands g t j d → has_next d ≡ false → Links g t i (ds ++ d ∷ [])
links_last g t i j [] d leads stands last = (subst (λ n. Stands g t n d) (sym leads) stands, last)
links_last g t i j (e ∷ []) d leads stands last = (leads.0, leads.1, links_last g t e.next j [] d leads.2 stands last)
links_last g t i j (e ∷ f ∷ ds) d leads stands last = (leads.0, leads.1, links_last g t e.next j (f ∷ ds) d leads.2 stands last)

-- the walk so far
pub record WalkSo (g : Guest) (t : Table) (head : ℕ) (ds : List Descriptor) (i s old new : ℕ) : Type 0 where
  pub passes : Passes g t head ds i
  pub sum : s ≡ total ds
  pub cost : new ≡ old + length ds

last_from : (d : Descriptor) → bit_and d.flags 1 ≡ 0 → has_next d ≡ false
last_from d e = ap not (eq-eqb (bit_and d.flags 1) 0 e)

next_from : (d : Descriptor) → (bit_and d.flags 1 ≡ 0 → ⊥) → has_next d ≡ true
next_from d e = ap not (ne_eqb (bit_and d.flags 1) 0 e)

short_more : (ds xs : List Descriptor) (d : Descriptor) (n m : ℕ) → n ≡ length ds → n < m → xs ≡ ds ++ d ∷ [] → length xs ≤ m
short_more ds xs d n m len h e = omega (arith, ap length e, length-append ds (d ∷ []))

total_more : (ds xs : List Descriptor) (d : Descriptor) → xs ≡ ds ++ d ∷ [] → total xs ≡ total ds + d.len
total_more ds xs d e = ap total e ∙ sum_by_push (λ d. d.len) ds d

pub chain_done : (g : Guest) (t : Table) (head : ℕ) (ds xs : List Descriptor) (d : Descriptor) (n i s old new : ℕ) → WalkSo g t head ds i s old new → Fits g t n s i d → n ≡ length ds → bit_and d.flags 1 ≡ 0 → xs ≡ ds ++ d ∷ [] → IsChain g t head xs
chain_done g t head ds xs d n i s old new so fits len last e = record {
  links = subst (λ l. Links g t head l) (sym e) (links_last g t head i ds d so.passes.leads fits.stands (last_from d last));
  short = short_more ds xs d n t.size len fits.short e;
  small = omega (arith, fits.small, so.sum, total_more ds xs d e);
}

pub walk_more : (g : Guest) (t : Table) (head : ℕ) (ds xs : List Descriptor) (d : Descriptor) (n i s old new next : ℕ) → WalkSo g t head ds i s old new → Fits g t n s i d → n ≡ length ds → (bit_and d.flags 1 ≡ 0 → ⊥) → xs ≡ ds ++ d ∷ [] → next ≡ new + 1 → WalkSo g t head xs d.next (s + d.len) old next
walk_more g t head ds xs d n i s old new next so fits len more e tick = record {
  passes = record {
    leads = subst (λ l. Leads g t head l d.next) (sym e) (leads_more g t head i ds d so.passes.leads fits.stands (next_from d more));
    short = short_more ds xs d n t.size len fits.short e;
    small = omega (arith, fits.small, so.sum, total_more ds xs d e);
  };
  sum = omega (arith, so.sum, total_more ds xs d e);
  cost = omega (arith, so.cost, tick, ap length e, length-append ds (d ∷ []));
}

same_stands : (g : Guest) (t : Table) (i : ℕ) (d e : Descriptor) → Stands g t i d → Stands g t i e → d ≡ e
same_stands g t i d e p q = p.is ∙ sym q.is

not_both : (d e : Descriptor) → d ≡ e → has_next d ≡ true → has_next e ≡ false → ⊥
not_both d e same p q = true≢false (sym p ∙ ap has_next same ∙ q)

-- a head has one list of linked descriptors
pub links_one : (g : Guest) (t : Table) (i : ℕ) (ds es : List Descriptor) → Links g t i ds → Links g t i es → ds ≡ es
links_one g t i [] es p q = absurd p
links_one g t i (d ∷ []) [] p q = absurd q
links_one g t i (d ∷ e ∷ ds) [] p q = absurd q
links_one g t i (d ∷ []) (f ∷ []) p q = ap (λ x. x ∷ []) (same_stands g t i d f p.0 q.0)
links_one g t i (d ∷ []) (f ∷ h ∷ fs) p q = absurd (not_both f d (same_stands g t i f d q.0 p.0) q.1 p.1)
links_one g t i (d ∷ e ∷ ds) (f ∷ []) p q = absurd (not_both d f (same_stands g t i d f p.0 q.0) p.1 q.1)
links_one g t i (d ∷ e ∷ ds) (f ∷ h ∷ fs) p q =
    let same : d ≡ f = same_stands g t i d f p.0 q.0 in
    let rest : e ∷ ds ≡ h ∷ fs = links_one g t d.next (e ∷ ds) (h ∷ fs) p.2 (subst (λ x. Links g t x.next (h ∷ fs)) (sym same) q.2) in
    ap (λ x. x ∷ e ∷ ds) same ∙ ap (λ xs. f ∷ xs) rest

-- what a walk has read is a front of the chain, and the chain goes on
pub record GoesOn (g : Guest) (t : Table) (i : ℕ) (es ds : List Descriptor) : Type 0 where
  pub next : Descriptor
  pub rest : List Descriptor
  pub split : ds ≡ es ++ next ∷ rest
  pub stands : Stands g t i next

pub goes_on : (g : Guest) (t : Table) (h i : ℕ) (es ds : List Descriptor) → Leads g t h es i → Links g t h ds → GoesOn g t i es ds
goes_on g t h i [] [] p q = absurd q
goes_on g t h i [] (d ∷ []) p q = record { next = d; rest = []; split = refl; stands = subst (λ n. Stands g t n d) p q.0 }
goes_on g t h i [] (d ∷ e ∷ ds) p q = record { next = d; rest = e ∷ ds; split = refl; stands = subst (λ n. Stands g t n d) p q.0 }
goes_on g t h i (e ∷ es) [] p q = absurd q
goes_on g t h i (e ∷ es) (d ∷ []) p q = absurd (not_both e d (same_stands g t h e d p.0 q.0) p.1 q.1)
goes_on g t h i (e ∷ es) (d ∷ f ∷ ds) p q =
    let same : d ≡ e = same_stands g t h d e q.0 p.0 in
    let on : GoesOn g t i es (f ∷ ds) = goes_on g t e.next i es (f ∷ ds) p.2 (subst (λ x. Links g t x.next (f ∷ ds)) same q.2) in
    record { next = on.next; rest = on.rest; split = ap (λ x. x ∷ f ∷ ds) same ∙ ap (λ xs. e ∷ xs) on.split; stands = on.stands }

-- a descriptor that passes fails no test
pub no_fault : (g : Guest) (t : Table) (n s i : ℕ) (d : Descriptor) → Fits g t n s i d → fault_of g t n s i ≡ None
unfolding fault_of
no_fault g t n s i d fits =
    let is : d ≡ descriptor_at g (slot_of t i) = fits.stands.is in
    let direct : is_indirect (descriptor_at g (slot_of t i)) ≡ false = subst (λ x. is_indirect x ≡ false) is fits.stands.direct in
    let covered : covers g.regions (descriptor_at g (slot_of t i)).addr (descriptor_at g (slot_of t i)).len ≡ true = subst (λ x. covers g.regions x.addr x.len ≡ true) is fits.stands.covered in
    let small : ltb 4294967295 (s + (descriptor_at g (slot_of t i)).len) ≡ false = subst (λ x. ltb 4294967295 (s + x.len) ≡ false) is (le-ltb 4294967295 (s + d.len) fits.small) in
    rw (lt-leb t.size n fits.short, lt-leb t.size i fits.stands.below, fits.stands.read, direct, small, covered) refl

none_some : (damage : Damage) → None ≡ Some damage → ⊥
none_some damage e = cc

-- a descriptor with which passing ones go on fails no test
pub passes_on : (g : Guest) (t : Table) (i : ℕ) (es ds : List Descriptor) → GoesOn g t i es ds → length ds ≤ t.size → total ds ≤ 4294967295 → fault_of g t (length es) (total es) i ≡ None
passes_on g t i es ds on short small =
    let longer : length ds ≡ length es + (1 + length on.rest) = ap length on.split ∙ length-append es (on.next ∷ on.rest) ∙ ap (λ n. length es + n) (omega arith) in
    let sums : total ds ≡ total es + (on.next.len + total on.rest) = ap total on.split ∙ sum_by-append (λ d. d.len) es (on.next ∷ on.rest) ∙ ap (λ n. total es + n) (sum_by-cons (λ d. d.len) on.next on.rest) in
    no_fault g t (length es) (total es) i on.next (record { stands = on.stands; short = omega arith; small = omega arith })

-- where the chain is whole no test fails
pub chain_whole : (g : Guest) (t : Table) (head : ℕ) (ds : List Descriptor) (damage : Damage) → IsChain g t head ds → FailsFirst g t head damage → ⊥
chain_whole g t head ds damage chain fails =
    none_some damage (sym (passes_on g t fails.1 fails.0 ds (goes_on g t head fails.1 fails.0 ds fails.2.leads chain.links) chain.short chain.small) ∙ fails.3)

-- of two walks one is a front of the other
data Compared (g : Guest) (t : Table) (i j : ℕ) (es fs : List Descriptor) : Type 0 where
  level : es ≡ fs → i ≡ j → Compared g t i j es fs
  ahead : GoesOn g t i es fs → Compared g t i j es fs
  behind : GoesOn g t j fs es → Compared g t i j es fs

front : (g : Guest) (t : Table) (h i : ℕ) (f : Descriptor) (fs : List Descriptor) → h ≡ i → Stands g t h f → GoesOn g t i [] (f ∷ fs)
front g t h i f fs e stands = record { next = f; rest = fs; split = refl; stands = subst (λ n. Stands g t n f) e stands }

later : (g : Guest) (t : Table) (i : ℕ) (e f : Descriptor) (es fs : List Descriptor) → e ≡ f → GoesOn g t i es fs → GoesOn g t i (e ∷ es) (f ∷ fs)
later g t i e f es fs same on = record { next = on.next; rest = on.rest; split = sym (ap (λ x. x ∷ fs) same) ∙ ap (λ xs. e ∷ xs) on.split; stands = on.stands }

longer : (g : Guest) (t : Table) (i j : ℕ) (e f : Descriptor) (es fs : List Descriptor) → e ≡ f → Compared g t i j es fs → Compared g t i j (e ∷ es) (f ∷ fs)
longer g t i j e f es fs same (level p q) = level (ap (λ x. x ∷ es) same ∙ ap (λ xs. f ∷ xs) p) q
longer g t i j e f es fs same (ahead on) = ahead (later g t i e f es fs same on)
longer g t i j e f es fs same (behind on) = behind (later g t j f e fs es (sym same) on)

compared : (g : Guest) (t : Table) (h i j : ℕ) (es fs : List Descriptor) → Leads g t h es i → Leads g t h fs j → Compared g t i j es fs
compared g t h i j [] [] p q = level refl (sym p ∙ q)
compared g t h i j [] (f ∷ fs) p q = ahead (front g t h i f fs p q.0)
compared g t h i j (e ∷ es) [] p q = behind (front g t h j e es q p.0)
compared g t h i j (e ∷ es) (f ∷ fs) p q =
    let same : e ≡ f = same_stands g t h e f p.0 q.0 in
    longer g t i j e f es fs same (compared g t e.next i j es fs p.2 (subst (λ x. Leads g t x.next fs j) (sym same) q.2))

-- a head has one first test that fails
pub fails_one : (g : Guest) (t : Table) (head : ℕ) (a b : Damage) → FailsFirst g t head a → FailsFirst g t head b → a ≡ b
fails_one g t head a b p q =
    elim (compared g t head p.1 q.1 p.0 q.0 p.2.leads q.2.leads) [
      | level es i ↦ (let both : Some a ≡ Some b = sym p.3 ∙ ap₂ (λ l n. fault_of g t (length l) (total l) n) es i ∙ q.3 in cc)
      | ahead on ↦ absurd (none_some a (sym (passes_on g t p.1 p.0 q.0 on q.2.short q.2.small) ∙ p.3))
      | behind on ↦ absurd (none_some b (sym (passes_on g t q.1 q.0 p.0 on p.2.short p.2.small) ∙ q.3))
    ]

-- the writable segments hold no more than all
pub room_le : (ds : List Descriptor) → room_of ds ≤ total ds
unfolding room_of segments_of
room_le [] = omega arith
room_le (d ∷ ds) =
    elim (cases_Bool (is_writable d)) [
      | inl t ↦ rw t (omega (arith, room_le ds, sum_by-cons (λ s. s.len) (segment_of d) (map segment_of (filter is_writable ds)), sum_by-cons (λ d. d.len) d ds))
      | inr f ↦ rw f (omega (arith, room_le ds, sum_by-cons (λ d. d.len) d ds))
    ]

pub room_is : (ds : List Descriptor) (ss : List Segment) → ss ≡ segments_of ds → sum_by (λ s. s.len) ss ≡ room_of ds
unfolding room_of
room_is ds ss e = ap (λ l. sum_by (λ s. s.len) l) e

-- the steps of a walk that fails
pub failure_cost : (g : Guest) (t : Table) (head : ℕ) (ds : List Descriptor) (i s n old mid new : ℕ) (d : Damage) → WalkSo g t head ds i s old mid → n ≡ length ds → fault_of g t n s i ≡ Some d → new + n ≡ mid + reads_at t.size n d → CostsFailure g t head d old new
failure_cost g t head ds i s n old mid new d so len fault cost =
    let here : fault_of g t (length ds) (total ds) i ≡ Some d = ap₂ (λ k sum. fault_of g t k sum i) (sym len) (sym so.sum) ∙ fault in
    let reads : new ≡ old + reads_at t.size n d = omega (arith, so.cost) in
    (ds, i, so.passes, here, reads ∙ ap (λ k. old + reads_at t.size k d) len)

-- each segment of a chain lies in guest memory
pub links_covered : (g : Guest) (t : Table) (i : ℕ) (ds : List Descriptor) → Links g t i ds → AllByRecursion (λ d. IsCovered g d) ds
links_covered g t i [] links = absurd links
links_covered g t i (d ∷ []) links = (links.0.covered, tt)
links_covered g t i (d ∷ e ∷ ds) links = (links.0.covered, links_covered g t d.next (e ∷ ds) links.2)
