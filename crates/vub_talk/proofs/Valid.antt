-- The set-up of a batch is valid for each device that a conversation takes.
use Rattle.std.proofs.Common.{◌≡◌, ℕ, zero, suc, ◌+◌, ◌-◌, ◌*◌, ◌%◌, ◌<◌, ◌≤◌, Bool, true, false, not, cond, ◌||◌, List, [], ◌∷◌, ◌++◌, length, map, take, Option, Some, None, refl, sym, ap, subst, ◌∙◌, arith, eqb, ltb, leb, slice_index_or}
use Rattle.std.specs.List.{AllByRecursion, list_all, list_any, position, position_or_len, range_with_len}
use Rattle.std.specs.Option.{option_flatten, is_some}
use Rattle.std.specs.Prelude.{slice_get, option_map}
use Rattle.std.specs.Int.{is_power_of_two, w16, to_le_bytes}
use Rattle.std.proofs.lemmas.Bool.{and_parts, or_parts, le-leb, le-ltb, leb-true, ltb-false, lt-ltb, eqb-false}
use Rattle.std.proofs.lemmas.List.{take_all, length_push}
use Rattle.vub_mem.specs.Table.{table_fault, region_fault as one_region_fault, pairs_fault}
use Rattle.vub_model.specs.declared.constants.Constants.{Constants}
use Rattle.vub_model.specs.declared.run.SetupFault.{SetupFault}
use Rattle.vub_model.specs.declared.run.SetupFault.TheVariants as setup_fault
use Rattle.vub_model.specs.declared.setup.Guest.{Guest}
use Rattle.vub_model.specs.declared.setup.Guest.TheVariants.{Store, Signal}
use Rattle.vub_model.specs.declared.setup.Object.{Object}
use Rattle.vub_model.specs.declared.setup.Object.TheVariants as object
use Rattle.vub_model.specs.declared.setup.GivenRing.{GivenRing}
use Rattle.vub_model.specs.declared.setup.GivenRegion.{GivenRegion}
use Rattle.vub_model.specs.ValidSetup.{is_greatest_size, is_event, is_event_or_none, content_len, is_possible, is_free, ring_is_sound, ring_fault, exit_fault, device_fault as device_refused, region_fault, given_table_fault, request_fault, guest_fault, log_object_fault, or_else, fault_of}
use Rattle.vub_model.specs.Work.{is_object}
use Rattle.vub_model.proofs.OpeningMeets.{none-passes}
use Rattle.vub_driver.specs.Calls.{chain_bytes, index_of}
use Rattle.vub_driver.specs.Layouts.{has_size, is_aligned, new_fault}
use Rattle.vub_driver.specs.Places.{half_of, place_of, head_of, request_at, descriptors_at, avail_slot_at, avail_index_at}
use Rattle.vub_driver.specs.View.{IsFit}
use Rattle.vub_driver.specs.Writings.{writes_of}
use Rattle.vub_driver.specs.declared.layout.Layout.{Layout}
use Rattle.vub_driver.proofs.Fitting.{place_below, pair_fits}
use Rattle.vub_driver.proofs.Writes.{length-chain_bytes}
use Rattle.vub_talk.specs.Asking.{AreSmall, is_large}
use Rattle.vub_talk.specs.Batches.{asks_stored, batch_setup, stores_of}
use Rattle.vub_talk.specs.Faults.{lies_within, is_within, setup_fault as setup_refused}
use Rattle.vub_talk.specs.Machine.{constants_in, fixed}
use Rattle.vub_talk.specs.declared.ask.Ask.{Ask}
use Rattle.vub_talk.proofs.Accepting.{request_fits}
use Rattle.vub_talk.proofs.Refusing.{fit_taken}

-- No element passes a test: then there is no first.

none-first : {X : Type 0} (p : X → Bool) (xs : List X) → AllByRecursion (λ x. p x ≡ false) xs → length xs ≤ position_or_len p xs
none-first p [] all = omega arith
none-first p (x ∷ xs) all =
    let no : p x ≡ false = all.0 in
    let next : position_or_len p (x ∷ xs) ≡ suc (position_or_len p xs) = rw no (omega arith) in
    omega (arith, none-first p xs all.1)

no-place : {X : Type 0} (p : X → Bool) (xs : List X) → AllByRecursion (λ x. p x ≡ false) xs → position p xs ≡ None
no-place p xs all = (let past : ltb (position_or_len p xs) (length xs) ≡ false = le-ltb (position_or_len p xs) (length xs) (none-first p xs all) in rw past refl)

all-map : {X Y : Type 0} (P : Y → Type 0) (f : X → Y) (xs : List X) → ((x : X) → P (f x)) → AllByRecursion P (map f xs)
all-map P f [] each = tt
all-map P f (x ∷ xs) each = (each x, all-map P f xs each)

all-append : {X : Type 0} (P : X → Type 0) (xs ys : List X) → AllByRecursion P xs → AllByRecursion P ys → AllByRecursion P (xs ++ ys)
all-append P [] ys first second = second
all-append P (x ∷ xs) ys first second = (first.0, all-append P xs ys first.1 second)

all-list : {X : Type 0} (p : X → Bool) (xs : List X) → AllByRecursion (λ x. p x ≡ true) xs → list_all p xs ≡ true
all-list p [] all = refl
all-list p (x ∷ xs) all = rw (all.0, all-list p xs all.1) refl

all-turned : {X : Type 0} (p : X → Bool) (xs : List X) → AllByRecursion (λ x. p x ≡ true) xs → AllByRecursion (λ x. not (p x) ≡ false) xs
all-turned p [] all = tt
all-turned p (x ∷ xs) all = (ap not all.0, all-turned p xs all.1)

-- Exit objects: there is none.

no-exit : (exits : List (Option ℕ)) (w : ℕ) → AllByRecursion (λ exit. is_some exit ≡ false) exits → option_flatten (slice_get exits w) ≡ None
no-exit [] w all = refl
no-exit (None ∷ exits) zero all = refl
no-exit (Some x ∷ exits) zero all = absurd (let no : true ≡ false = all.0 in cc)
no-exit (exit ∷ exits) (suc w) all = no-exit exits w all.1

-- What the tests of a device leave.
record Takes (k : Constants) (l : Layout) : Type 0 where
  queues : ltb 64 k.queues ≡ false
  workers : ltb 64 (length k.masks) ≡ false
  greatest : is_greatest_size k.max ≡ true
  exits : position (λ exit. is_some exit) k.exits ≡ None
  some : eqb k.queues 0 ≡ false
  size : ltb k.max l.size ≡ false

passed : (a b c : Bool) (o : Option ℕ) (d e : Bool)
    → cond a (Some setup_fault.Queues) (cond b (Some setup_fault.Workers) (cond (not c) (Some setup_fault.QueueSize)
    (or_else (option_map (λ w. setup_fault.Exit w) o) (cond (d || e) (Some (setup_fault.Ring 0)) None)))) ≡ None
    → (a ≡ false) × (b ≡ false) × (c ≡ true) × (o ≡ None) × (d ≡ false) × (e ≡ false)
passed true b c o d e h = absurd (let no : ⊥ = cc in no)
passed false true c o d e h = absurd (let no : ⊥ = cc in no)
passed false false false o d e h = absurd (let no : ⊥ = cc in no)
passed false false true (Some w) d e h = absurd (let no : ⊥ = cc in no)
passed false false true None true e h = absurd (let no : ⊥ = cc in no)
passed false false true None false true h = absurd (let no : ⊥ = cc in no)
passed false false true None false false h = (refl, refl, refl, refl, refl, refl)

takes : (k : Constants) (l : Layout) → setup_refused k l ≡ None → Takes k l
unfolding setup_refused
takes k l h = (let p = passed (ltb 64 k.queues) (ltb 64 (length k.masks)) (is_greatest_size k.max) (position (λ exit. is_some exit) k.exits) (eqb k.queues 0) (ltb k.max l.size) h in record {
  queues = p.0;
  workers = p.1;
  greatest = p.2;
  exits = p.3;
  some = p.4;
  size = p.5;
})

pub few_masks : (k : Constants) (l : Layout) → setup_refused k l ≡ None → length k.masks ≤ 64
few_masks k l h = ltb-false 64 (length k.masks) (takes k l h).workers

pub some_queues : (k : Constants) (l : Layout) → setup_refused k l ≡ None → 0 < k.queues
some_queues k l h = (let some : eqb k.queues 0 ≡ false = (takes k l h).some in let no : k.queues ≡ 0 → ⊥ = eqb-false k.queues 0 some in omega (arith, no))

abbrev objects_of : List ℕ → List Object
objects_of content = object.Content content ∷ object.Event 0 ∷ object.Event 0 ∷ []

-- Stores in the content.

possible : (content bs : List ℕ) (a n : ℕ) → length content ≡ 1048576 → length bs ≡ n → 1048576 ≤ a → a + n ≤ 2097152 → is_possible (objects_of content) (Store 0 (a - 1048576) bs) ≡ true
unfolding is_possible content_len
possible content bs a n long many low high = le-leb (a - 1048576 + length bs) (length content) (omega arith)

pub record Within (l : Layout) : Type 0 where
  pub desc : (1048576 ≤ l.desc) × (l.desc + 16 * l.size ≤ 2097152)
  pub avail : (1048576 ≤ l.avail) × (l.avail + (6 + 2 * l.size) ≤ 2097152)
  pub used : (1048576 ≤ l.used) × (l.used + (6 + 8 * l.size) ≤ 2097152)
  pub buffers : (1048576 ≤ l.buffers) × (l.buffers + l.slot * l.size ≤ 2097152)

within-parts : (at len : ℕ) → is_within at len ≡ true → (1048576 ≤ at) × (at + len ≤ 2097152)
within-parts at len h = (let p = and_parts (leb 1048576 at) (leb (at + len) 2097152) h in (leb-true 1048576 at p.0, leb-true (at + len) 2097152 p.1))

pub within : (l : Layout) → lies_within l ≡ true → Within l
unfolding lies_within
within l h =
    let a = and_parts _ _ h in
    let b = and_parts _ _ a.0 in
    let c = and_parts _ _ b.0 in
    record {
      desc = within-parts l.desc (16 * l.size) c.0;
      avail = within-parts l.avail (6 + 2 * l.size) c.1;
      used = within-parts l.used (6 + 8 * l.size) b.1;
      buffers = within-parts l.buffers (l.slot * l.size) a.1;
    }

stores-possible : (l : Layout) (content : List ℕ) (n : ℕ) (a : Ask) → IsFit l → Within l → length content ≡ 1048576 → length a.request ≤ l.slot →
    AllByRecursion (λ g. is_possible (objects_of content) g ≡ true) (stores_of (writes_of l n a.request a.room))
stores-possible l content n a fit lies long short =
    let below : place_of l n < half_of l = place_below l n fit in
    let pair = pair_fits (place_of l n) (half_of l) l.slot l.size below fit.even in
    let some : 0 < l.size = omega (arith, fit.some, fit.even) in
    let slot : n % l.size < l.size = omega arith in
    let chain : length (chain_bytes l n (length a.request) a.room) ≡ 32 = length-chain_bytes l n (length a.request) a.room in
    let first = possible content a.request (request_at l n) (length a.request) long refl (omega (arith, lies.buffers.0)) (omega (arith, lies.buffers.1, pair)) in
    let second = possible content (chain_bytes l n (length a.request) a.room) (descriptors_at l n) 32 long chain (omega (arith, lies.desc.0)) (omega (arith, lies.desc.1, below, fit.even)) in
    let third = possible content (to_le_bytes w16 (head_of l n)) (avail_slot_at l n) 2 long refl (omega (arith, lies.avail.0)) (omega (arith, lies.avail.1, slot)) in
    let fourth = possible content (to_le_bytes w16 (index_of (n + 1))) (avail_index_at l) 2 long refl (omega (arith, lies.avail.0)) (omega (arith, lies.avail.1)) in
    (first, (second, (third, (fourth, tt))))

asks-possible : (l : Layout) (content : List ℕ) (n : ℕ) (asks : List Ask) → IsFit l → Within l → length content ≡ 1048576 → AreSmall l asks →
    AllByRecursion (λ g. is_possible (objects_of content) g ≡ true) (asks_stored l n asks)
asks-possible l content n [] fit lies long small = tt
asks-possible l content n (a ∷ asks) fit lies long small =
    let parts = or_parts (is_large l a) (list_any (λ (x : Ask). is_large l x) asks) small in
    all-append (λ g. is_possible (objects_of content) g ≡ true) (stores_of (writes_of l n a.request a.room)) (asks_stored l (n + 1) asks)
    (stores-possible l content n a fit lies long (request_fits l (length a.request) a.room parts.0))
    (asks-possible l content (n + 1) asks fit lies long parts.1)

length-stored : (l : Layout) (n : ℕ) (asks : List Ask) → length (asks_stored l n asks) ≡ 4 * length asks
length-stored l n [] = refl
length-stored l n (a ∷ asks) = (let rest = length-stored l (n + 1) asks in omega arith)

abbrev actions : Layout → ℕ → List Ask → List Guest
actions l n asks = asks_stored l n asks ++ Signal 1 ∷ []

signal-possible : (content : List ℕ) → is_possible (objects_of content) (Signal 1) ≡ true
unfolding is_possible is_event
signal-possible content = refl

guest-valid : (l : Layout) (content : List ℕ) (n : ℕ) (asks : List Ask) → IsFit l → Within l → length content ≡ 1048576 → AreSmall l asks → length asks ≤ half_of l → guest_fault (objects_of content) (actions l n asks) ≡ None
unfolding guest_fault
guest-valid l content n asks fit lies long small few =
    let many : length (actions l n asks) ≡ 4 * length asks + 1 = length_push (asks_stored l n asks) (Signal 1) ∙ ap (λ k. k + 1) (length-stored l n asks) in
    let short : length (actions l n asks) ≤ 1048576 = omega (arith, many, few, fit.even, fit.small) in
    let whole : take 1048576 (actions l n asks) ≡ actions l n asks = take_all 1048576 (actions l n asks) short in
    let all = all-append (λ g. is_possible (objects_of content) g ≡ true) (asks_stored l n asks) (Signal 1 ∷ []) (asks-possible l content n asks fit lies long small) (signal-possible content, tt) in
    let none : position (λ g. not (is_possible (objects_of content) g)) (actions l n asks) ≡ None =
    no-place (λ g. not (is_possible (objects_of content) g)) (actions l n asks) (all-turned (λ g. is_possible (objects_of content) g) (actions l n asks) all) in
    let end : ltb 1048576 (length (actions l n asks)) ≡ false = le-ltb 1048576 (length (actions l n asks)) short in
    rw (whole, none, end) refl

-- The device, the region and the ring.

module _ (k : Constants) (l : Layout) (t : Takes k l) where
  none-given : AllByRecursion (λ exit. exit ≡ None) (constants_in (fixed k)).exits
  none-given = all-map (λ exit. exit ≡ None) (λ w. option_flatten (slice_get k.exits w)) (range_with_len 0 (length k.masks)) (λ w. no-exit k.exits w (none-passes (λ exit. is_some exit) k.exits t.exits))

  events : (content : List ℕ) (exits : List (Option ℕ)) → AllByRecursion (λ exit. exit ≡ None) exits → AllByRecursion (λ exit. not (is_event_or_none (objects_of content) exit) ≡ false) exits
  events content [] all = tt
  events content (exit ∷ exits) all = ((let P : Option ℕ → Type 0 = λ x. not (is_event_or_none (objects_of content) x) ≡ false in subst P (sym all.0) refl), events content exits all.1)

  device-valid : (content : List ℕ) → device_refused (constants_in (fixed k)) (objects_of content) ≡ None
  unfolding device_refused exit_fault
  device-valid content =
      let none : position (λ exit. not (is_event_or_none (objects_of content) exit)) (constants_in (fixed k)).exits ≡ None =
      no-place (λ exit. not (is_event_or_none (objects_of content) exit)) (constants_in (fixed k)).exits (events content (constants_in (fixed k)).exits none-given) in
      rw (t.queues, t.workers, t.greatest, none) refl

  not-exits : (exits : List (Option ℕ)) → AllByRecursion (λ exit. exit ≡ None) exits → AllByRecursion (λ exit. not (is_object exit 1) ≡ true) exits
  not-exits [] all = tt
  not-exits (exit ∷ exits) all = ((let P : Option ℕ → Type 0 = λ x. not (is_object x 1) ≡ true in subst P (sym all.0) refl), not-exits exits all.1)

  abbrev ring_of : ℕ → GivenRing
  ring_of n = record {
    queue = 0;
    size = l.size;
    info = Some (record { desc = l.desc; avail = l.avail; used = l.used });
    base = index_of n;
    next_used = index_of n;
    kick = Some 1;
    call = Some 2;
    ready = true;
    enabled = true;
  }

  some-queue : ltb 0 k.queues ≡ true
  some-queue = (let no : k.queues ≡ 0 → ⊥ = (λ zero. (let yes : eqb k.queues 0 ≡ true = rw zero refl in let both : true ≡ false = sym yes ∙ t.some in cc)) in lt-ltb 0 k.queues (grind arith))

  sound : (content : List ℕ) (n : ℕ) → has_size l ≡ true → is_aligned l ≡ true → ring_is_sound (constants_in (fixed k)) (objects_of content) [] (ring_of n) ≡ true
  unfolding ring_is_sound is_event is_free has_size is_aligned
  sound content n size aligned =
      let power : is_power_of_two l.size ≡ true = (and_parts _ _ (and_parts _ _ size).0).0 in
      let most : leb l.size k.max ≡ true = le-leb l.size k.max (ltb-false k.max l.size t.size) in
      let free : list_all (λ exit. not (is_object exit 1)) (constants_in (fixed k)).exits ≡ true = all-list (λ exit. not (is_object exit 1)) (constants_in (fixed k)).exits (not-exits (constants_in (fixed k)).exits none-given) in
      rw (some-queue, power, most, aligned, free) refl

  ring-valid : (content : List ℕ) (n : ℕ) → has_size l ≡ true → is_aligned l ≡ true → ring_fault (constants_in (fixed k)) (objects_of content) [] (ring_of n ∷ []) ≡ None
  unfolding ring_fault
  ring-valid content n size aligned = rw (sound content n size aligned) refl

abbrev region_of : GivenRegion
region_of = record { start = 1048576; len = 1048576; user = 0; offset = 0; object = 0 }

region-valid : (content : List ℕ) → region_fault (objects_of content) (region_of ∷ []) ≡ None
unfolding region_fault content_len
region-valid content = refl

table-valid : (content : List ℕ) → length content ≡ 1048576 → given_table_fault (objects_of content) (region_of ∷ []) ≡ None
unfolding given_table_fault table_fault one_region_fault pairs_fault
table-valid content long = rw long refl

requests-valid : (k : Constants) (content : List ℕ) → request_fault k (objects_of content) [] ≡ None
unfolding request_fault
requests-valid k content = refl

logs-valid : (content : List ℕ) → log_object_fault (objects_of content) ≡ None
unfolding log_object_fault
logs-valid content = refl

none_past : (b : Bool) (e x : Option SetupFault) → cond b e x ≡ None → Unit {0}
none_past b e x h = tt

pub valid : (k : Constants) (l : Layout) (n : ℕ) (content : List ℕ) (asks : List Ask) → new_fault l ≡ None → has_size l ≡ true → is_aligned l ≡ true → lies_within l ≡ true → setup_refused k l ≡ None → length content ≡ 1048576 → AreSmall l asks → length asks ≤ half_of l →
    fault_of (constants_in (fixed k)) (batch_setup l n content (asks_stored l n asks ++ Signal 1 ∷ [])) ≡ None
unfolding fault_of batch_setup
valid k l n content asks taken size aligned lies device long small few =
    let t = takes k l device in
    rw (device-valid k l t content, region-valid content, table-valid content long, ring-valid k l t content n size aligned, requests-valid (constants_in (fixed k)) content, guest-valid l content n asks (fit_taken l taken) (within l lies) long small few, logs-valid content) refl

none_at : (exits : List (Option ℕ)) (w : ℕ) → AllByRecursion (λ exit. exit ≡ None) exits → slice_index_or exits w None ≡ None
none_at [] w all = refl
none_at (exit ∷ exits) zero all = all.0
none_at (exit ∷ exits) (suc w) all = none_at exits w all.1

pub no_exits : (k : Constants) (l : Layout) → setup_refused k l ≡ None → (w : ℕ) → slice_index_or (constants_in (fixed k)).exits w None ≡ None
no_exits k l h w = none_at (constants_in (fixed k)).exits w (none-given k l (takes k l h))
