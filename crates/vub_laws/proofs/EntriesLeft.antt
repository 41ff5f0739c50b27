-- How many entries are left: what a take of one, of none, and a step that leaves the index word make of the number.
use Rattle.std.proofs.Common.{◌≡◌, ℕ, suc, ◌+◌, Bool, true, false, cond, not, ◌&&◌, ◌==◌, nat_lt, Option, Some, None, is_some, List, unwrap_or, Result, Ok, Err, refl, sym, ap, ◌∙◌, subst, arith}
use Rattle.std.specs.Int.{w16}
use Rattle.std.proofs.lemmas.Bool.{eqb-true, eqb-false}
use Rattle.vub_mem.specs.declared.region.Region.{Region}
use Rattle.vub_mem.specs.Memory.{Guest}
use Rattle.vub_mem.specs.Place.{covers, number_at}
use Rattle.vub_queue.specs.Chain.{chain_of}
use Rattle.vub_queue.specs.EntryNumber.{minus, after}
use Rattle.vub_queue.specs.Function.{took_walk, took_head, look_of, finish_of, took_of, walk_of}
use Rattle.vub_queue.specs.Layout.{table_of, avail_index_at, avail_slot_at}
use Rattle.vub_queue.specs.Ring.{Ring}
use Rattle.vub_queue.specs.Take.{head_of, event_covers, Taken}
use Rattle.vub_queue.specs.declared.addresses.Addresses.{Addresses}
use Rattle.vub_queue.specs.declared.chain.Chain.{Chain}
use Rattle.vub_queue.specs.declared.damage.Damage.{Damage}
use Rattle.vub_queue.specs.declared.damage.Damage.TheVariants.{RingOutside, IndexAhead}
use Rattle.vub_queue.specs.declared.descriptor.Descriptor.{Descriptor}
use Rattle.vub_queue.specs.declared.head.Head.{Head}
use Rattle.vub_queue.specs.declared.head.Head.TheVariants.{Empty, At, Broken}
use Rattle.vub_queue.specs.declared.took.Took.{Took}
use Rattle.vub_queue.specs.declared.took.Took.TheVariants as took
use Rattle.vub_queue.proofs.Walks.{takes_some}
use Rattle.vub_model.specs.declared.ring_op.RingOp.TheVariants as op
use Rattle.vub_model.specs.RingRecord.{Vring, has_addresses, changed}
use Rattle.vub_model.specs.Running.{index_word}
use Rattle.vub_model.specs.Shared.{Shared, ring_at}
use Rattle.vub_model.specs.Work.{looked, may_take}
use Rattle.vub_laws.specs.EntriesLeft.{entries_left}

-- By the regions, the addresses, the next number and the index word

entries-by : List Region → Option Addresses → ℕ → ℕ → ℕ
entries-by regions None next word = 0
entries-by regions (Some a) next word = cond (covers regions (a.avail + 2) 2) (minus word next) 0

abbrev pub left_at : {V : Type 0} → Shared V → ℕ → ℕ
left_at h q = entries_left h.guest (ring_at h q)

entries-is : {V : Type 0} (h : Shared V) (q : ℕ) (a : Option Addresses) → (ring_at h q).queue.addresses ≡ a → left_at h q ≡ entries-by h.guest.regions a (ring_at h q).queue.next_avail (index_word h q)
unfolding entries-by
entries-is h q None is = ap (λ (x : Option Addresses). cond (is_some x) (cond (covers h.guest.regions ((unwrap_or x (record { desc = 0; avail = 0; used = 0 })).avail + 2) 2) (minus (index_word h q) (ring_at h q).queue.next_avail) 0) 0) is
entries-is h q (Some a) is = ap (λ (x : Option Addresses). cond (is_some x) (cond (covers h.guest.regions ((unwrap_or x (record { desc = 0; avail = 0; used = 0 })).avail + 2) 2) (minus (index_word h q) (ring_at h q).queue.next_avail) 0) 0) is

-- the same where regions, addresses, next number and index word are
pub entries-same : {V : Type 0} (old new : Shared V) (q : ℕ) → new.guest.regions ≡ old.guest.regions → (ring_at new q).queue.addresses ≡ (ring_at old q).queue.addresses → (ring_at new q).queue.next_avail ≡ (ring_at old q).queue.next_avail
    → (has_addresses (ring_at old q) ≡ true → index_word new q ≡ index_word old q) → left_at new q ≡ left_at old q
unfolding entries-by
entries-same old new q regions addresses next word =
    entries-is new q _ addresses ∙ by (ring_at old q).queue.addresses refl ∙ sym (entries-is old q _ refl) where
      by : (a : Option Addresses) → (ring_at old q).queue.addresses ≡ a → entries-by new.guest.regions a (ring_at new q).queue.next_avail (index_word new q) ≡ entries-by old.guest.regions a (ring_at old q).queue.next_avail (index_word old q)
      by None is = refl
      by (Some a) is =
          ap (λ rs. entries-by rs (Some a) (ring_at new q).queue.next_avail (index_word new q)) regions
          ∙ ap (λ n. entries-by old.guest.regions (Some a) n (index_word new q)) next
          ∙ ap (λ x. entries-by old.guest.regions (Some a) (ring_at old q).queue.next_avail x) (word (ap is_some is))

-- What an entry comes of

pub record EntryAt (g : Guest) (r : Ring) (c : Chain) : Type 0 where
  pub head : ℕ
  pub ds : List Descriptor
  pub at : head_of g r ≡ At head
  pub walk : walk_of g (table_of r) head ≡ Ok ds
  pub is : c ≡ chain_of g head ds

entry-walk : (g : Guest) (r : Ring) (c : Chain) (head : ℕ) (w : Result (List Descriptor) Damage) → head_of g r ≡ At head → walk_of g (table_of r) head ≡ w → took_walk g head w ≡ took.Entry c → EntryAt g r c
entry-walk g r c head (Ok ds) at walk is = record { head = head; ds = ds; at = at; walk = walk; is = cc }
entry-walk g r c head (Err d) at walk is = absurd cc

entry-head : (g : Guest) (r : Ring) (c : Chain) (h : Head) → head_of g r ≡ h → took_head g r h ≡ took.Entry c → EntryAt g r c
entry-head g r c Empty at is = absurd cc
entry-head g r c (Broken d) at is = absurd cc
entry-head g r c (At head) at is = entry-walk g r c head (walk_of g (table_of r) head) at refl is

event-entry : (b : Bool) (c : Chain) → cond b (took.Damaged RingOutside) took.None ≡ took.Entry c → ⊥
event-entry true c is = cc
event-entry false c is = cc

entry-finish : (g : Guest) (r : Ring) (c : Chain) (t : Took) → finish_of g r t ≡ took.Entry c → t ≡ took.Entry c
entry-finish g r c (took.Entry e) is = is
entry-finish g r c took.None is = absurd (event-entry (r.event_idx && not (event_covers g r)) c is)
entry-finish g r c (took.Damaged d) is = is

pub entry-at : (g : Guest) (r : Ring) (c : Chain) → took_of g r ≡ took.Entry c → EntryAt g r c
unfolding took_of look_of
entry-at g r c is = entry-head g r c (head_of g r) refl (entry-finish g r c (look_of g r) is)

-- the tests of the available ring, by what they read
unfoldable pub head-by : List Region → Ring → ℕ → ℕ → Head
head-by rs r word slot =
    cond (not (covers rs (avail_index_at r) 2)) (Broken RingOutside)
    (cond (nat_lt r.size (minus word r.next_avail)) (Broken IndexAhead)
    (cond (minus word r.next_avail == 0) Empty
    (cond (not (covers rs (avail_slot_at r) 2)) (Broken RingOutside) (At slot))))

pub head-is : (g : Guest) (r : Ring) → head_of g r ≡ head-by g.regions r (number_at w16 g (avail_index_at r)) (number_at w16 g (avail_slot_at r))
unfolding head_of head-by
head-is g r = refl

entry-tests : (a b z d : Bool) (n head : ℕ) → cond (not a) (Broken RingOutside) (cond b (Broken IndexAhead) (cond z Empty (cond (not d) (Broken RingOutside) (At n)))) ≡ At head → (a ≡ true) × (z ≡ false)
entry-tests false b z d n head e = absurd cc
entry-tests true true z d n head e = absurd cc
entry-tests true false true d n head e = absurd cc
entry-tests true false false d n head e = (refl, refl)

empty-tests : (a b z d : Bool) (n : ℕ) → cond (not a) (Broken RingOutside) (cond b (Broken IndexAhead) (cond z Empty (cond (not d) (Broken RingOutside) (At n)))) ≡ Empty → z ≡ true
empty-tests false b z d n e = absurd cc
empty-tests true true z d n e = absurd cc
empty-tests true false true d n e = refl
empty-tests true false false true n e = absurd cc
empty-tests true false false false n e = absurd cc

-- the count falls by one with a take
fewer : (word next : ℕ) → (minus word next ≡ 0 → ⊥) → minus word next ≡ suc (minus word (after next))
fewer word next some = omega (arith, some)

-- a take of an entry lowers what is left by one
pub entry-left : (g : Guest) (r : Vring) (c : Chain) → has_addresses r ≡ true → took_of g r.queue ≡ took.Entry c → entries_left g r ≡ suc (entries_left g (changed r op.Taken))
unfolding head-by
entry-left g r c addresses is =
    let e : EntryAt g r.queue c = entry-at g r.queue c is in
    let word = number_at w16 g (avail_index_at r.queue) in
    let tests = entry-tests (covers g.regions (avail_index_at r.queue) 2) (nat_lt r.queue.size (minus word r.queue.next_avail)) (minus word r.queue.next_avail == 0) (covers g.regions (avail_slot_at r.queue) 2) (number_at w16 g (avail_slot_at r.queue)) e.head (sym (head-is g r.queue) ∙ e.at) in
    rw (addresses, tests.0) (fewer word r.queue.next_avail (eqb-false (minus word r.queue.next_avail) 0 tests.1))

-- nothing is left where a take finds nothing
pub none-left : (g : Guest) (r : Vring) → took_of g r.queue ≡ took.None → entries_left g r ≡ 0
unfolding head-by
none-left g r is =
    let T : Took → Type 0 = λ t. Taken g r.queue t in
    let word = number_at w16 g (avail_index_at r.queue) in
    let empty : head_of g r.queue ≡ Empty = (subst T is (takes_some g r.queue)).0 in
    let tests = empty-tests (covers g.regions (avail_index_at r.queue) 2) (nat_lt r.queue.size (minus word r.queue.next_avail)) (minus word r.queue.next_avail == 0) (covers g.regions (avail_slot_at r.queue) 2) (number_at w16 g (avail_slot_at r.queue)) (sym (head-is g r.queue) ∙ empty) in
    by (has_addresses r) (covers g.regions (avail_index_at r.queue) 2) (minus word r.queue.next_avail) (eqb-true (minus word r.queue.next_avail) 0 tests) where
      by : (a b : Bool) (n : ℕ) → n ≡ 0 → cond a (cond b n 0) 0 ≡ 0
      by true true n e = e
      by true false n e = refl
      by false b n e = refl

-- what is looked at is what a take would give
looked-took : (live : Bool) (t : Took) (c : Chain) → cond live t took.None ≡ took.Entry c → t ≡ took.Entry c
looked-took true t c is = is
looked-took false t c is = absurd cc

pub took-here : {V : Type 0} (h : Shared V) (q : ℕ) (c : Chain) → looked h q ≡ took.Entry c → took_of h.guest (ring_at h q).queue ≡ took.Entry c
unfolding looked
took-here h q c is = looked-took (may_take (ring_at h q)) (took_of h.guest (ring_at h q).queue) c is

pub none-here : {V : Type 0} (h : Shared V) (q : ℕ) → may_take (ring_at h q) ≡ true → looked h q ≡ took.None → took_of h.guest (ring_at h q).queue ≡ took.None
unfolding looked
none-here h q live is = let L : Bool → Type 0 = λ b. cond b (took_of h.guest (ring_at h q).queue) took.None ≡ took.None in subst L live is
