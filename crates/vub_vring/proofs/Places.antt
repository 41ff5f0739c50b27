-- The ring of a queue and the pending set of a worker: one that is there, and one that is not.
use Rattle.std.proofs.Common.{◌≡◌, ℕ, suc, zero, ◌+◌, ◌<◌, Bool, true, false, if◌then◌else◌, List, [], ◌∷◌, length, slice_index_or, slice_set, Err, refl, sym, ap, subst, ◌∙◌, arith}
use Rattle.vub_mem.specs.Memory.{Guest}
use Rattle.vub_mem.specs.Place.{covers}
use Rattle.vub_mem.specs.Found.{IsLocated}
use Rattle.vub_model.specs.Control.{used_index_covers}
use Rattle.vub_queue.specs.declared.chain.Chain.{Chain}
use Rattle.vub_queue.specs.declared.took.Took.TheVariants as took
use Rattle.vub_queue.specs.declared.putting.PutFault.TheVariants as put_fault
use Rattle.vub_model.specs.declared.ring_op.RingOp.TheVariants as op
use Rattle.vub_model.specs.RingRecord.{Vring, closed_ring, ring_after}
use Rattle.vub_ring.specs.declared.ops.TableRing.{TableRing}
use Rattle.vub_ring.specs.declared.ops.TableRing.TheVariants as table_ring
use Rattle.vub_ring.specs.declared.ops.TableRingSaid.{TableRingSaid}
use Rattle.vub_ring.specs.declared.ops.TableRingSaid.TheVariants as table_said
use Rattle.vub_ring.specs.declared.ops.PutSaid.{PutSaid}
use Rattle.vub_ring.specs.declared.ops.PutSaid.TheVariants as put_said
use Rattle.vub_ring.specs.declared.ops.PendOp.{PendOp}
use Rattle.vub_ring.specs.declared.ops.PendSaid.{PendSaid}
use Rattle.vub_ring.specs.Play.{found, guest_none, put_found, info_after, TablePlays, PutPlays, PendPlays}
use Rattle.vub_vring.specs.Store.{ring_in, left_by, RingTableAt, ClosedPlays, PutsAt, PendsAt}

-- what is there does not hang on what stands for what is not
there : {A : Type 0} (xs : List A) (i : ℕ) (d e : A) → i < length xs → slice_index_or xs i d ≡ slice_index_or xs i e
there [] i d e below = absurd (omega arith)
there (x ∷ xs) zero d e below = refl
there (x ∷ xs) (suc i) d e below = there xs i d e (omega arith)

missing : {A : Type 0} (xs : List A) (i : ℕ) (d : A) → (i < length xs → ⊥) → slice_index_or xs i d ≡ d
missing [] i d apart = refl
missing (x ∷ xs) zero d apart = absurd (apart (omega arith))
missing (x ∷ xs) (suc i) d apart = missing xs i d (λ below. apart (omega (arith, below)))

-- a place that is not there is not set
pub set_missing : {A : Type 0} (xs : List A) (i : ℕ) (x : A) → (i < length xs → ⊥) → slice_set xs i x ≡ xs
set_missing [] i x apart = refl
set_missing (y ∷ ys) zero x apart = absurd (apart (omega arith))
set_missing (y ∷ ys) (suc i) x apart = ap (λ zs. y ∷ zs) (set_missing ys i x (λ below. apart (omega (arith, below))))

pub ring_there : (rings : List Vring) (queue : ℕ) (r : Vring) → queue < length rings → r ≡ slice_index_or rings queue r → r ≡ ring_in rings queue
ring_there rings queue r below is = is ∙ there rings queue r closed_ring below

pub ring_missing : (rings : List Vring) (queue : ℕ) → (queue < length rings → ⊥) → closed_ring ≡ ring_in rings queue
ring_missing rings queue apart = sym (missing rings queue closed_ring apart)

-- what is there, put back
pub set_same : {A : Type 0} (xs : List A) (i : ℕ) (x : A) → i < length xs → x ≡ slice_index_or xs i x → slice_set xs i x ≡ xs
set_same [] i x below is = absurd (omega arith)
set_same (y ∷ ys) zero x below is = ap (λ z. z ∷ ys) is
set_same (y ∷ ys) (suc i) x below is = ap (λ zs. y ∷ zs) (set_same ys i x (omega arith) is)

-- a step of a ring that is there, with what is written back
pub table_there : (rings after : List Vring) (queue : ℕ) (o : TableRing) (said : TableRingSaid) (old ring : Vring) (g guest : Guest) → queue < length rings → old ≡ slice_index_or rings queue old → TablePlays o said old g ring guest → after ≡ slice_set rings queue ring → RingTableAt queue o said rings g after guest
table_there rings after queue o said old ring g guest below is plays set =
    let P : Vring → Type 0 = λ r. TablePlays o said r g ring guest in (ring, subst P (ring_there rings queue old below is) plays, set)

closed-finds : (g : Guest) → (found g closed_ring ≡ took.None) × (g ≡ guest_none g closed_ring)
unfolding found guest_none
closed-finds g = (refl, refl)

pub closed_take : (g : Guest) → ClosedPlays table_ring.Take table_said.Nothing g
closed_take g = let c = closed-finds g in (closed_ring, (c.0, refl, c.1))

closed-info : (g : Guest) (desc avail used : ℕ) (there : Bool) → used_index_covers g used ≡ there → ClosedPlays (table_ring.Info desc avail used) (if there then table_said.Done else table_said.Outside) g
closed-info g desc avail used there is =
    (info_after closed_ring g desc avail used, (ap (λ b. if b then table_said.Done else table_said.Outside) (sym is), refl, refl))

pub closed_outside : (g : Guest) (desc avail used : ℕ) → covers g.regions (used + 2) 2 ≡ false → ClosedPlays (table_ring.Info desc avail used) table_said.Outside g
closed_outside g desc avail used is = closed-info g desc avail used false is

pub closed_done : (g : Guest) (desc avail used word : ℕ) → IsLocated g.regions used 2 2 word → ClosedPlays (table_ring.Info desc avail used) table_said.Done g
closed_done g desc avail used word at = closed-info g desc avail used true (ap (λ a. covers g.regions a 2) (sym at.is) ∙ at.covered)

pub table_missing : (rings : List Vring) (queue : ℕ) (o : TableRing) (said : TableRingSaid) (g : Guest) → (queue < length rings → ⊥) → ClosedPlays o said g → RingTableAt queue o said rings g rings g
table_missing rings queue o said g apart plays =
    let P : Vring → Type 0 = λ r. TablePlays o said r g plays.0 g in
    (plays.0, subst P (ring_missing rings queue apart) plays.1, sym (set_missing rings queue plays.0 apart))

pub put_there : (rings after : List Vring) (queue : ℕ) (c : Chain) (reply : List ℕ) (said : PutSaid) (old ring : Vring) (g guest : Guest) → queue < length rings → old ≡ slice_index_or rings queue old → PutPlays c reply said old g ring guest → after ≡ slice_set rings queue ring → PutsAt queue c reply said rings g after guest
put_there rings after queue c reply said old ring g guest below is plays set =
    let P : Vring → Type 0 = λ r. PutPlays c reply said r g ring guest in (ring, subst P (ring_there rings queue old below is) plays, set)

pub closed-puts : (g : Guest) (c : Chain) (reply : List ℕ) → put_found g closed_ring c reply ≡ Err put_fault.RingOutside
unfolding put_found
closed-puts g c reply = refl

pub put_missing : (rings : List Vring) (queue : ℕ) (c : Chain) (reply : List ℕ) (g : Guest) → (queue < length rings → ⊥) → PutsAt queue c reply (put_said.Held put_fault.RingOutside) rings g rings g
put_missing rings queue c reply g apart =
    let P : Vring → Type 0 = λ r. PutPlays c reply (put_said.Held put_fault.RingOutside) r g (ring_after closed_ring op.Hold) g in
    (ring_after closed_ring op.Hold, subst P (ring_missing rings queue apart) (closed-puts g c reply, refl, refl), sym (set_missing rings queue (ring_after closed_ring op.Hold) apart))

pub pend_there : (sets after : List (List ℕ)) (worker : ℕ) (o : PendOp) (said : PendSaid) (old set : List ℕ) → worker < length sets → old ≡ slice_index_or sets worker old → PendPlays o said old set → after ≡ slice_set sets worker set → PendsAt worker o said sets after
pend_there sets after worker o said old set below is plays put =
    let P : List ℕ → Type 0 = λ s. PendPlays o said s set in (set, subst P (is ∙ there sets worker old [] below) plays, put)

pub pend_missing : (sets : List (List ℕ)) (worker : ℕ) (o : PendOp) (said : PendSaid) → (worker < length sets → ⊥) → PendPlays o said [] (left_by o) → PendsAt worker o said sets sets
pend_missing sets worker o said apart plays =
    let P : List ℕ → Type 0 = λ s. PendPlays o said s (left_by o) in
    (left_by o, subst P (sym (missing sets worker [] apart)) plays, sym (set_missing sets worker (left_by o) apart))
