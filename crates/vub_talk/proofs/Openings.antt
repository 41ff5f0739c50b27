-- The world in which a batch begins.
use Rattle.std.proofs.Common.{◌≡◌, ◌≢◌, ◌⊎◌, ℕ, zero, suc, ◌+◌, ◌-◌, ◌*◌, ◌%◌, ◌^◌, ◌<◌, ◌≤◌, inl, inr, Bool, true, false, cond, Option, Some, None, List, [], ◌∷◌, ◌++◌, length, get_or, map, find, set, nat_lt, refl, sym, ap, ap₂, subst, ◌∙◌, arith, eqb}
use Rattle.std.specs.Int.{Width, w16, w32, w64, byte_len, from_le_bytes}
use Rattle.std.specs.Prelude.{sum_by}
use Rattle.std.specs.List.{range_with_len}
use Rattle.std.proofs.lemmas.Bool.{cases_eq, cond_both, ne_eqb}
use Rattle.std.proofs.lemmas.List.Sums.{sum_by-cons}
use Rattle.vub_mem.specs.Memory as memory
use Rattle.vub_mem.specs.Place.{byte_at, byte_in, content_of, covers, holds, number_at, region_of}
use Rattle.vub_queue.specs.Chain.{descriptor_at}
use Rattle.vub_queue.specs.EntryNumber.{minus}
use Rattle.vub_queue.specs.declared.descriptor.Descriptor.{Descriptor}
use Rattle.vub_driver.specs.Calls.{index_of}
use Rattle.vub_driver.specs.Places.{avail_index_at}
use Rattle.vub_driver.specs.declared.layout.Layout.{Layout}
use Rattle.vub_driver.proofs.Flat.{same_bytes}
use Rattle.vub_event.specs.declared.event.Event.{Event}
use Rattle.vub_event.specs.declared.member.Member.{Member}
use Rattle.vub_event.specs.InterestList.{member_of}
use Rattle.vub_event.specs.HostTable.{HostTable, event_at, members_at}
use Rattle.vub_model.specs.declared.constants.Constants.{Constants}
use Rattle.vub_model.specs.declared.phase.Phase.TheVariants.{Idle}
use Rattle.vub_model.specs.declared.setup.GivenRing.{GivenRing}
use Rattle.vub_model.specs.declared.setup.Object.{Object}
use Rattle.vub_model.specs.declared.setup.Object.TheVariants as object
use Rattle.vub_model.specs.declared.setup.Guest.TheVariants.{Signal}
use Rattle.vub_model.specs.declared.wiring.Place.{Place}
use Rattle.vub_model.specs.Frame.{is_member}
use Rattle.vub_model.specs.Opening.{opening, opening_rings, opening_table, ring_from, wiring_of, claimed, placed}
use Rattle.vub_model.specs.RingRecord.{Vring, closed_ring, has_addresses}
use Rattle.vub_model.specs.Shared.{Shared, ring_at, pending_at, count_of, with_number}
use Rattle.vub_model.specs.Wiring.{Wiring, opened_at, place_of}
use Rattle.vub_laws.specs.Draining.{event_left, events_in, events_left, all_entries_left, is_kick_or_listener, is_place_of, measure, object_left, work_left}
use Rattle.vub_laws.specs.EntriesLeft.{entries_left}
use Rattle.vub_laws.proofs.EventsLeft.{raised-events}
use Rattle.vub_talk.specs.Asking.{AreSmall, region}
use Rattle.vub_talk.specs.Batches.{asks_stored, batch_setup}
use Rattle.vub_talk.specs.Ready.{IsHarmless, IsReady}
use Rattle.vub_talk.specs.declared.ask.Ask.{Ask}
use Rattle.vub_talk.proofs.Acting.{batch-acts}
use Rattle.vub_talk.proofs.Guarding.{Sits, one}
use Rattle.vub_talk.proofs.Standing.{Stands, entries-none, entries-word, measure-one}
use Rattle.vub_talk.proofs.Leaving.{RingsFit, addresses_in}

-- Memory of the same bytes is ready

same-byte : (cs ds : List _) (a : ℕ) (b : Bool) → content_of ds 0 ≡ content_of cs 0 → byte_in ds a (cond b (Some region) None) ≡ byte_in cs a (cond b (Some region) None)
same-byte cs ds a true same = ap (λ xs. get_or xs (0 + (a - 1048576)) 0) same
same-byte cs ds a false same = refl

module _ (g h : memory.Guest) (flat : h.regions ≡ one) (was : g.regions ≡ one) (same : content_of h.contents 0 ≡ content_of g.contents 0) where
  bytes-alike : (x : ℕ) → byte_at h x ≡ byte_at g x
  unfolding byte_at
  bytes-alike x = ap (λ rs. byte_in h.contents x (region_of rs x)) flat ∙ same-byte g.contents h.contents x (holds region x) same ∙ sym (ap (λ rs. byte_in g.contents x (region_of rs x)) was)

  number-alike : (w : Width) (a : ℕ) → number_at w h a ≡ number_at w g a
  unfolding number_at
  number-alike w a = ap (from_le_bytes w) (same_bytes g h a (byte_len w) (λ x low high. bytes-alike x))

  descriptor-alike : (a : ℕ) → descriptor_at h a ≡ descriptor_at g a
  unfolding descriptor_at
  descriptor-alike a = (let addr = number-alike w64 a in let len = number-alike w32 (a + 8) in let flags = number-alike w16 (a + 12) in let next = number-alike w16 (a + 14) in rw (addr, len, flags, next) refl)

pub ready-alike : (l : Layout) (n : ℕ) (g h : memory.Guest) → h.regions ≡ one → content_of h.contents 0 ≡ content_of g.contents 0 → IsReady l n g → IsReady l n h
ready-alike l n g h flat same was = record {
  one = flat;
  long = ap (λ (xs : List ℕ). length xs) same ∙ was.long;
  index = number-alike g h flat was.one same w16 (avail_index_at l) ∙ was.index;
  table = λ i below. let D : Descriptor → Type 0 = λ d. IsHarmless l d in subst D (sym (descriptor-alike g h flat was.one same (l.desc + 16 * i))) (was.table i below);
}

-- Sums of nothing

sum-zero : (f : ℕ → ℕ) (n a : ℕ) → ((k : ℕ) → f k ≤ 0) → sum_by f (range_with_len a n) ≤ 0
sum-zero f zero a each = omega arith
sum-zero f (suc n) a each = omega (arith, sum_by-cons f a (range_with_len (a + 1) n), each a, sum-zero f n (a + 1) each)

event-none : (each : Bool) (e : Option Event) → count_of e ≡ 0 → event_left each e ≡ 0
event-none each None none = refl
event-none true (Some e) none = by e.semaphore where
  by : (b : Bool) → cond b e.count (cond (nat_lt 0 e.count) 1 0) ≡ 0
  by true = none
  by false = rw none refl
event-none false (Some e) none = rw none refl

object-none : (queues : ℕ) (ms : List Member) (t : HostTable) (o : ℕ) → count_of (event_at t o) ≡ 0 → object_left queues ms t Idle o ≤ 0
object-none queues ms t o none =
    let left = event-none (is_kick_or_listener queues (member_of ms o)) (event_at t o) none in
    cond_both (is_member ms o) (event_left (is_kick_or_listener queues (member_of ms o)) (event_at t o) - 0) 0 (λ x. x ≤ 0) (λ yes. omega (arith, left)) (λ no. omega arith)

quiet-events : (queues : ℕ) (ms : List Member) (t : HostTable) → ((o : ℕ) → count_of (event_at t o) ≡ 0) → events_in queues ms t Idle ≤ 0
quiet-events queues ms t none = sum-zero (λ o. object_left queues ms t Idle o) (length t.objects) 0 (λ o. object-none queues ms t o (none o))

-- The rings of the opening

at-range : {X : Type 0} (f : ℕ → X) (d : X) (n a q : ℕ) → (get_or (map f (range_with_len a n)) q d ≡ f (a + q)) ⊎ (get_or (map f (range_with_len a n)) q d ≡ d)
at-range f d zero a q = inr refl
at-range f d (suc n) a zero = (let here : a ≡ a + 0 = omega arith in inl (ap f here))
at-range f d (suc n) a (suc q) =
    let up : a + 1 + q ≡ a + suc q = omega arith in
    elim (at-range f d n (a + 1) q) [ inl found ↦ inl (found ∙ ap f up) | inr past ↦ inr past ]

from-zero : {X : Type 0} (f : ℕ → X) (d : X) (n q : ℕ) → (get_or (map f (range_with_len 0 n)) q d ≡ f q) ⊎ (get_or (map f (range_with_len 0 n)) q d ≡ d)
from-zero f d n q = (let none : 0 + q ≡ q = omega arith in elim (at-range f d n 0 q) [ inl found ↦ inl (found ∙ ap f none) | inr past ↦ inr past ])

abbrev pub objects_of : List ℕ → List Object
objects_of content = object.Content content ∷ object.Event 0 ∷ object.Event 0 ∷ []

abbrev pub ring_of : Layout → ℕ → GivenRing
ring_of l n = record {
  queue = 0;
  size = l.size;
  info = Some (record { desc = l.desc; avail = l.avail; used = l.used });
  base = index_of n;
  next_used = index_of n;
  kick = Some 1;
  call = Some 2;
  ready = true;
  enabled = true;
}

-- a ring that is not given has no addresses
given-other : (max : ℕ) (l : Layout) (n q : ℕ) → q ≢ 0 → has_addresses (ring_from max (find (λ (r : GivenRing). eqb r.queue q) (ring_of l n ∷ []))) ≡ false
given-other max l n q other = (let no : eqb 0 q ≡ false = ne_eqb 0 q (λ same. other (sym same)) in rw no refl)

given-plain : (max : ℕ) (l : Layout) (n q : ℕ) → (ring_from max (find (λ (r : GivenRing). eqb r.queue q) (ring_of l n ∷ []))).queue.event_idx ≡ false
given-plain max l n q = by (eqb 0 q) where
  by : (b : Bool) → (ring_from max (cond b (Some (ring_of l n)) None)).queue.event_idx ≡ false
  by true = refl
  by false = refl

module _ {V : Type 0} (l : Layout) (at : Sits l) (n : ℕ) (content : List ℕ) (v : V) (c : Constants) (mask : ℕ) (some : 0 < c.queues) where
  -- the device has one worker
  abbrev k : Constants
  k = record c { masks = mask ∷ [] }

  abbrev g : Wiring
  g = wiring_of k 3

  abbrev before : Shared V
  before = record {
    guest = record { regions = one; contents = record { object = 0; bytes = content } ∷ [] };
    rings = opening_rings k (ring_of l n ∷ []);
    logs = [];
    table = opening_table k (objects_of content);
    pending = [] ∷ [];
    service = v;
  }

  abbrev known : Shared V
  known = claimed before 1 0

  abbrev held : Option Place → Shared V
  held found = placed g known 1 found

  abbrev ring : ℕ → Vring
  ring q = ring_from c.max (find (λ (r : GivenRing). eqb r.queue q) (ring_of l n ∷ []))

  pub rings-before : RingsFit l before
  rings-before = by c.queues some where
    first : (queues : ℕ) → 0 < queues → get_or (map (λ q. ring q) (range_with_len 0 queues)) 0 closed_ring ≡ ring 0
    first zero above = absurd (omega (arith, above))
    first (suc queues) above = refl

    by : (queues : ℕ) → 0 < queues → RingsFit l (record before { rings = map (λ q. ring q) (range_with_len 0 queues) })
    by queues above = record {
      addresses = ap (λ (r : Vring). r.queue.addresses) (first queues above);
      size = ap (λ (r : Vring). r.queue.size) (first queues above);
      others = λ q other. elim (from-zero (λ q. ring q) closed_ring queues q) [
        | inl found ↦ ap (λ (r : Vring). has_addresses r) found ∙ given-other c.max l n q other
        | inr past ↦ ap (λ (r : Vring). has_addresses r) past
      ];
      plain = λ q. elim (from-zero (λ q. ring q) closed_ring queues q) [
        | inl found ↦ ap (λ (r : Vring). r.queue.event_idx) found ∙ given-plain c.max l n q
        | inr past ↦ ap (λ (r : Vring). r.queue.event_idx) past
      ];
    }

  next-before : (ring_at before 0).queue.next_avail ≡ index_of n % 2 ^ 16
  next-before = by c.queues some where
    by : (queues : ℕ) → 0 < queues → (get_or (map (λ q. ring_from c.max (find (λ (r : GivenRing). eqb r.queue q) (ring_of l n ∷ []))) (range_with_len 0 queues)) 0 closed_ring).queue.next_avail ≡ index_of n % 2 ^ 16
    by zero above = absurd (omega (arith, above))
    by (suc queues) above = refl

  rings-held : (found : Option Place) → RingsFit l (held found)
  rings-held None = record { addresses = rings-before.addresses; size = rings-before.size; others = rings-before.others; plain = rings-before.plain }
  rings-held (Some p) = record { addresses = rings-before.addresses; size = rings-before.size; others = rings-before.others; plain = rings-before.plain }

  same-ring : (found : Option Place) (q : ℕ) → ring_at (held found) q ≡ ring_at before q
  same-ring None q = refl
  same-ring (Some p) q = refl

  same-guest : (found : Option Place) → (held found).guest ≡ before.guest
  same-guest None = refl
  same-guest (Some p) = refl

  -- no event has a count, before the bell is rung
  counts : (o : ℕ) → count_of (event_at known.table o) ≡ 0
  counts zero = refl
  counts (suc zero) = refl
  counts (suc (suc zero)) = refl
  counts (suc (suc (suc zero))) = refl
  counts (suc (suc (suc (suc o)))) = refl

  events-held : (found : Option Place) → events_left g (held found) 0 Idle ≤ 1
  events-held None = (let none = quiet-events g.queues (members_at known.table (opened_at g 0).list) known.table counts in omega (arith, none))
  events-held (Some p) =
      let t = (held (Some p)).table in
      let ms = members_at t (opened_at g 0).list in
      let joined : HostTable = record known.table { lists = t.lists } in
      let none = quiet-events g.queues ms joined counts in
      let rung = raised-events g.queues ms joined (opened_at g p.worker).bell Idle in
      omega (arith, none, rung)

  pending-held : (found : Option Place) → length (pending_at (held found) 0) ≤ 1
  pending-held None = omega arith
  pending-held (Some p) = by p.worker where
    by : (worker : ℕ) → length (get_or (set ([] ∷ []) worker (with_number (get_or ([] ∷ []) worker []) p.number)) 0 []) ≤ 1
    by zero = omega arith
    by (suc j) = omega arith

  -- no entry is left where the index is that of the ring
  entries-before : IsReady l n before.guest → (q : ℕ) → entries_left before.guest (ring_at before q) ≤ 0
  entries-before ready q = elim (cases_eq q 0) [
    | inr other ↦ omega (arith, entries-none before.guest (ring_at before q) (rings-before.others q other))
    | inl same ↦
        (let E : ℕ → Type 0 = λ x. entries_left before.guest (ring_at before x) ≤ 0 in
        let is = entries-word before.guest (ring_at before 0) (addresses_in l) rings-before.addresses
        ∙ ap₂ (λ x y. cond (covers before.guest.regions (l.avail + 2) 2) (minus x y) 0) ready.index next-before in
        let none : minus (index_of n) (index_of n % 2 ^ 16) ≡ 0 = omega arith in
        let both : cond (covers before.guest.regions (l.avail + 2) 2) (minus (index_of n) (index_of n % 2 ^ 16)) 0 ≤ 0 =
        cond_both (covers before.guest.regions (l.avail + 2) 2) (minus (index_of n) (index_of n % 2 ^ 16)) 0 (λ x. x ≤ 0) (λ yes. omega (arith, none)) (λ no. omega arith) in
        subst E (sym same) (omega (arith, is, both)))
  ]

  entries-held : IsReady l n before.guest → (found : Option Place) → all_entries_left g (held found) 0 ≤ 0
  entries-held ready found =
      sum-zero (λ q. cond (is_place_of (place_of g q) 0) (entries_left (held found).guest (ring_at (held found) q)) 0) g.queues 0
      (λ q. cond_both (is_place_of (place_of g q) 0) (entries_left (held found).guest (ring_at (held found) q)) 0 (λ x. x ≤ 0)
      (λ yes. omega (arith, ap₂ (λ x y. entries_left x y) (same-guest found) (same-ring found q), entries-before ready q)) (λ no. omega arith))

  work-held : IsReady l n before.guest → (found : Option Place) → work_left g (held found) 0 Idle ≤ 8
  work-held ready found = omega (arith, events-held found, pending-held found, entries-held ready found)

  -- the world in which the batch begins
  pub opening-stands : (asks : List Ask) → AreSmall l asks → IsReady l n before.guest → Stands l n (13 * length asks + 7) (opening k (batch_setup l n content (asks_stored l n asks ++ Signal 1 ∷ [])) v)
  unfolding opening batch_setup
  opening-stands asks small ready =
      let R : memory.Guest → Type 0 = λ x. IsReady l n x in
      record {
        one = refl;
        ready = subst R (sym (same-guest (place_of g 0))) ready;
        rings = rings-held (place_of g 0);
        held = tt;
        acts = batch-acts l at n asks small;
        idle = refl;
      }

  pub opening-measure : (asks : List Ask) → IsReady l n before.guest → measure (opening k (batch_setup l n content (asks_stored l n asks ++ Signal 1 ∷ [])) v) ≤ 8
  unfolding opening batch_setup
  opening-measure asks ready = omega (arith, measure-one (opening k (batch_setup l n content (asks_stored l n asks ++ Signal 1 ∷ [])) v) refl, work-held ready (place_of g 0))
