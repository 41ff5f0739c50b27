-- The function meets the relation.
use Rattle.std.proofs.Common.{◌≡◌, ℕ, zero, suc, ◌+◌, inl, inr, Bool, true, false, not, ◌&&◌, cond, List, [], ◌∷◌, ◌++◌, length, Option, Some, None, Result, Ok, Err, refl, sym, arith, length-append, leb, ltb}
use Rattle.std.proofs.lemmas.Bool.{leb-false, ltb-false}
use Rattle.std.proofs.lemmas.List.Sums.{sum_by_push}
use Rattle.vub_mem.specs.Memory.{Guest}
use Rattle.vub_mem.specs.Place.{covers}
use Rattle.vub_queue.specs.Chain.{IsChain, descriptor_at, has_next, is_indirect, total}
use Rattle.vub_queue.specs.Function.{finish_of, look_of, took_head, took_of, took_walk, unless_fault, walk_from, walk_of}
use Rattle.vub_queue.specs.Layout.{Table, slot_of, table_of}
use Rattle.vub_queue.specs.Ring.{Ring}
use Rattle.vub_queue.specs.Take.{Looks, Taken, event_covers, head_of}
use Rattle.vub_queue.specs.Walk.{FailsFirst, Fits, Passes, fault_of}
use Rattle.vub_queue.proofs.Chains.{leads_more, links_last}
use Rattle.vub_queue.specs.declared.damage.Damage.{Damage}
use Rattle.vub_queue.specs.declared.damage.Damage.TheVariants.{RingOutside, TooLong, BadNumber, Indirect, TooBig, SegmentOutside}
use Rattle.vub_queue.specs.declared.descriptor.Descriptor.{Descriptor}
use Rattle.vub_queue.specs.declared.head.Head.{Head}
use Rattle.vub_queue.specs.declared.head.Head.TheVariants.{Empty, At, Broken}
use Rattle.vub_queue.specs.declared.took.Took.{Took}
use Rattle.vub_queue.specs.declared.took.Took.TheVariants as took

-- a test that stands before None was false
some_none : (e : Damage) → Some e ≡ None → ⊥
some_none e h = cc

passed : (b : Bool) (e : Damage) (o : Option Damage) → cond b (Some e) o ≡ None → (b ≡ false) × (o ≡ None)
passed true e o h = absurd (some_none e h)
passed false e o h = (refl, h)

not_false : (b : Bool) → not b ≡ false → b ≡ true
not_false true h = refl
not_false false h = sym h

pub fits_from : (g : Guest) (t : Table) (n s i : ℕ) → fault_of g t n s i ≡ None → Fits g t n s i (descriptor_at g (slot_of t i))
unfolding fault_of
fits_from g t n s i h =
    let d : Descriptor = descriptor_at g (slot_of t i) in
    let a = passed (leb t.size n) TooLong (cond (leb t.size i) (Some BadNumber) (cond (not (covers g.regions (slot_of t i) 16)) (Some RingOutside) (cond (is_indirect d) (Some Indirect) (cond (ltb 4294967295 (s + d.len)) (Some TooBig) (cond (not (covers g.regions d.addr d.len)) (Some SegmentOutside) None))))) h in
    let b = passed (leb t.size i) BadNumber (cond (not (covers g.regions (slot_of t i) 16)) (Some RingOutside) (cond (is_indirect d) (Some Indirect) (cond (ltb 4294967295 (s + d.len)) (Some TooBig) (cond (not (covers g.regions d.addr d.len)) (Some SegmentOutside) None)))) a.1 in
    let c = passed (not (covers g.regions (slot_of t i) 16)) RingOutside (cond (is_indirect d) (Some Indirect) (cond (ltb 4294967295 (s + d.len)) (Some TooBig) (cond (not (covers g.regions d.addr d.len)) (Some SegmentOutside) None))) b.1 in
    let e = passed (is_indirect d) Indirect (cond (ltb 4294967295 (s + d.len)) (Some TooBig) (cond (not (covers g.regions d.addr d.len)) (Some SegmentOutside) None)) c.1 in
    let f = passed (ltb 4294967295 (s + d.len)) TooBig (cond (not (covers g.regions d.addr d.len)) (Some SegmentOutside) None) e.1 in
    let k = passed (not (covers g.regions d.addr d.len)) SegmentOutside None f.1 in
    record {
      stands = record { below = leb-false t.size i b.0; read = not_false (covers g.regions (slot_of t i) 16) c.0; is = refl; direct = e.0; covered = not_false (covers g.regions d.addr d.len) k.0 };
      short = leb-false t.size n a.0;
      small = ltb-false 4294967295 (s + d.len) f.0;
    }

-- what a walk's end says
abbrev pub IsWalk : Guest → Table → ℕ → Result (List Descriptor) Damage → Type 0
IsWalk g t head (Ok ds) = IsChain g t head ds
IsWalk g t head (Err e) = FailsFirst g t head e

passes_more : (g : Guest) (t : Table) (head i : ℕ) (ds : List Descriptor) (d : Descriptor) → Passes g t head ds i → Fits g t (length ds) (total ds) i d → has_next d ≡ true → Passes g t head (ds ++ d ∷ []) d.next
passes_more g t head i ds d p f next = record {
  leads = leads_more g t head i ds d p.leads f.stands next;
  short = omega (arith, f.short, length-append ds (d ∷ []));
  small = omega (arith, f.small, sum_by_push (λ d. d.len) ds d);
}

chain_last : (g : Guest) (t : Table) (head i : ℕ) (ds : List Descriptor) (d : Descriptor) → Passes g t head ds i → Fits g t (length ds) (total ds) i d → has_next d ≡ false → IsChain g t head (ds ++ d ∷ [])
chain_last g t head i ds d p f last = record {
  links = links_last g t head i ds d p.leads f.stands last;
  short = omega (arith, f.short, length-append ds (d ∷ []));
  small = omega (arith, f.small, sum_by_push (λ d. d.len) ds d);
}

at_fault : (g : Guest) (t : Table) (head : ℕ) (ds : List Descriptor) (i : ℕ) (o : Option Damage) → fault_of g t (length ds) (total ds) i ≡ o → Passes g t head ds i → (next : Result (List Descriptor) Damage) → (o ≡ None → IsWalk g t head next) → IsWalk g t head (unless_fault o next)
at_fault g t head ds i None e p next go = go refl
at_fault g t head ds i (Some d) e p next go = (ds, i, p, e)

at_next : (g : Guest) (t : Table) (head : ℕ) (b : Bool) (x y : Result (List Descriptor) Damage) → (b ≡ true → IsWalk g t head x) → (b ≡ false → IsWalk g t head y) → IsWalk g t head (cond b x y)
at_next g t head true x y p q = p refl
at_next g t head false x y p q = q refl

walks : (g : Guest) (t : Table) (head k : ℕ) (ds : List Descriptor) (i : ℕ) → Passes g t head ds i → length ds + k ≡ t.size + 1 → IsWalk g t head (walk_from g t k ds i)
walks g t head zero ds i p e = absurd (omega (arith, p.short))
walks g t head (suc k) ds i p e =
    let d : Descriptor = descriptor_at g (slot_of t i) in
    at_fault g t head ds i (fault_of g t (length ds) (total ds) i) refl p (cond (has_next d) (walk_from g t k (ds ++ d ∷ []) d.next) (Ok (ds ++ d ∷ [])))
    (λ none. at_next g t head (has_next d) (walk_from g t k (ds ++ d ∷ []) d.next) (Ok (ds ++ d ∷ []))
    (λ next. walks g t head k (ds ++ d ∷ []) d.next (passes_more g t head i ds d p (fits_from g t (length ds) (total ds) i none) next) (omega (arith, length-append ds (d ∷ []))))
    (λ last. chain_last g t head i ds d p (fits_from g t (length ds) (total ds) i none) last))

pub walks_all : (g : Guest) (t : Table) (head : ℕ) → IsWalk g t head (walk_of g t head)
unfolding walk_of
walks_all g t head = walks g t head (suc t.size) [] head (record { leads = refl; short = omega arith; small = omega arith }) (omega arith)

looks_walk : (g : Guest) (r : Ring) (head : ℕ) (w : Result (List Descriptor) Damage) → head_of g r ≡ At head → IsWalk g (table_of r) head w → Looks g r (took_walk g head w)
looks_walk g r head (Ok ds) e h = (ds, e, h, refl)
looks_walk g r head (Err d) e h = inr (head, e, h)

looks_head : (g : Guest) (r : Ring) (h : Head) → head_of g r ≡ h → Looks g r (took_head g r h)
looks_head g r Empty e = e
looks_head g r (Broken d) e = inl e
looks_head g r (At head) e = looks_walk g r head (walk_of g (table_of r) head) e (walks_all g (table_of r) head)

-- looking at the next entry gives something in every memory
pub looks_some : (g : Guest) (r : Ring) → Looks g r (look_of g r)
unfolding look_of
looks_some g r = looks_head g r (head_of g r) refl

published : (g : Guest) (r : Ring) (e c : Bool) → r.event_idx ≡ e → event_covers g r ≡ c → head_of g r ≡ Empty → Taken g r (cond (e && not c) (took.Damaged RingOutside) took.None)
published g r false c off cover empty = (empty, inl off)
published g r true true on cover empty = (empty, inr cover)
published g r true false on cover empty = inr (empty, on, cover, refl)

finishes : (g : Guest) (r : Ring) (t : Took) → Looks g r t → Taken g r (finish_of g r t)
finishes g r (took.Entry c) looked = looked
finishes g r took.None looked = published g r r.event_idx (event_covers g r) refl refl looked
finishes g r (took.Damaged d) looked = inl looked

-- a take has an answer in every memory
pub takes_some : (g : Guest) (r : Ring) → Taken g r (took_of g r)
unfolding took_of
takes_some g r = finishes g r (look_of g r) (looks_some g r)
