-- The opening of a valid set-up has the schedule invariant.
use Rattle.std.proofs.Common.{◌≡◌, ℕ, zero, suc, ◌+◌, ◌<◌, ◌≤◌, Bool, true, false, cond, not, ◌&&◌, ◌⊎◌, inl, inr, List, [], ◌∷◌, ◌++◌, length, map, get_or, find, fold, Option, Some, None, is_some, refl, sym, ap, ◌∙◌, subst, arith, eqb, nat_lt, slice_index_or, append_assoc, append-nil, option_map, position, ltb}
use Rattle.std.specs.List.{AllByRecursion, list_all, position_or_len}
use Rattle.std.proofs.lemmas.List.{get_or_past, length-append, length-map, get_or-map as mapped-at}
use Rattle.std.proofs.lemmas.List.FromFn.{length-map-range_with_len, get_or-map-range_with_len}
use Rattle.std.proofs.lemmas.Bool.{cases_Bool, cases_lt, and_parts, eqb-true, eq-eqb, ne_eqb, ltb-true, leb-true, not-true, not-false, ltb-false, cond-true}
use Rattle.vub_event.specs.declared.event.Event.{Event}
use Rattle.vub_event.specs.declared.member.Member.{Member}
use Rattle.vub_event.specs.HostTable.{event_at, members_at}
use Rattle.vub_event.specs.HostCalls.{new_event}
use Rattle.vub_event.specs.InterestList.{member_of, with_member}
use Rattle.std.specs.Int.{is_power_of_two}
use Rattle.std.specs.Prelude.{nat_le}
use Rattle.vub_proto.specs.declared.request.Request.{Request}
use Rattle.vub_proto.specs.declared.request.Request.TheVariants as request
use Rattle.vub_model.specs.declared.constants.Constants.{Constants}
use Rattle.vub_model.specs.declared.flight.Flight.TheVariants as flight
use Rattle.vub_model.specs.declared.phase.Phase.TheVariants.{Idle}
use Rattle.vub_model.specs.declared.run.SetupFault.{SetupFault}
use Rattle.vub_model.specs.declared.run.SetupFault.TheVariants as setup_fault
use Rattle.vub_model.specs.declared.setup.GivenRegion.{GivenRegion}
use Rattle.vub_model.specs.declared.setup.GivenRing.{GivenRing}
use Rattle.vub_model.specs.declared.setup.Guest.{Guest}
use Rattle.vub_model.specs.declared.setup.Object.{Object}
use Rattle.vub_model.specs.declared.setup.Setup.{Setup}
use Rattle.vub_model.specs.declared.wiring.Known.{Known}
use Rattle.vub_model.specs.declared.wiring.Opened.{Opened}
use Rattle.vub_model.specs.declared.wiring.Place.{Place}
use Rattle.vub_model.specs.RingRecord.{Vring, closed_ring, is_on}
use Rattle.vub_model.specs.Frame.{Frame, claim_of, frame_of, known_of, is_there}
use Rattle.vub_model.specs.Shared.{Shared, ring_at, count_at, pending_at, has_number, inserted, raised}
use Rattle.vub_model.specs.Wiring.{Wiring, opened_at, no_worker, place_of, IsPlaced}
use Rattle.vub_model.specs.World.{phase_at}
use Rattle.vub_model.specs.Work.{is_object}
use Rattle.vub_model.specs.ValidSetup.{or_else, is_event, is_event_or_none, is_free, is_free_or_none, is_first_of_queue, is_aligned, ring_is_sound, ring_fault, device_fault, exit_fault, is_greatest_size, region_fault, given_table_fault, is_answerable, request_fault, guest_fault, log_object_fault, fault_of, IsValid}
use Rattle.vub_model.specs.Opening.{flags_of, opening_events, opened_worker, wiring_of, listed, exit_member, opening_members, given_vring, ring_from, opening_rings, claimed, joined, placed, registered_kick, registered, opening_table, before_rings, opening, is_registered, new_control}
use Rattle.vub_model.specs.Schedule.{IsKick, IsBellOrExit, IsOwn, known_at, claim_at, is_member, Linked, Settled, PhaseFits, HasInHand, ringing, waiting, Invariant, Wired, IsListener, NoBell, RequestFits}
use Rattle.vub_model.proofs.Places.{place-is}
use Rattle.vub_model.proofs.SchedWork.{known-ring, kick-ring, claim-event}
use Rattle.vub_model.proofs.Waking.{has-none}
use Rattle.vub_model.proofs.Registering.{Among, IsListed, IsOnKick, Stage, with-all, with-own, with-kept, claim-none, claim-kick, join-none, join-kick}
use Rattle.vub_model.proofs.Stepping.{begun-all}

-- A set-up that fails no test

unless-none : (b : Bool) (fault : SetupFault) (rest : Option SetupFault) → cond b (Some fault) rest ≡ None → (b ≡ false) × (rest ≡ None)
unless-none true fault rest is = absurd cc
unless-none false fault rest is = (refl, is)

pub or-parts : (a b : Option SetupFault) → or_else a b ≡ None → (a ≡ None) × (b ≡ None)
or-parts None b is = (refl, is)
or-parts (Some x) b is = absurd cc

-- each part of a valid set-up is without a fault
pub record FailsNone (constants : Constants) (setup : Setup) : Type 0 where
  pub device : device_fault constants setup.objects ≡ None
  pub table : given_table_fault setup.objects setup.regions ≡ None
  pub rings : ring_fault constants setup.objects [] setup.rings ≡ None
  pub requests : request_fault constants setup.objects setup.requests ≡ None
  pub guest : guest_fault setup.objects setup.guest ≡ None

pub fails-none : (constants : Constants) (setup : Setup) → IsValid constants setup → FailsNone constants setup
unfolding fault_of
fails-none constants setup valid =
    let guest = or_else (guest_fault setup.objects setup.guest) (log_object_fault setup.objects) in
    let requests = request_fault constants setup.objects setup.requests in
    let rings = ring_fault constants setup.objects [] setup.rings in
    let table = given_table_fault setup.objects setup.regions in
    let region = region_fault setup.objects setup.regions in
    let device = device_fault constants setup.objects in
    let first = or-parts device (or_else region (or_else table (or_else rings (or_else requests guest)))) valid in
    let second = or-parts region (or_else table (or_else rings (or_else requests guest))) first.1 in
    let third = or-parts table (or_else rings (or_else requests guest)) second.1 in
    let fourth = or-parts rings (or_else requests guest) third.1 in
    let fifth = or-parts requests guest fourth.1 in
    let sixth = or-parts (guest_fault setup.objects setup.guest) (log_object_fault setup.objects) fifth.1 in
    record { device = first.0; table = third.0; rings = fourth.0; requests = fifth.0; guest = sixth.0 }

-- the greatest size of a queue is a power of two, and no greater than 32768
pub greatest-size : (constants : Constants) (setup : Setup) → IsValid constants setup → (is_power_of_two constants.max ≡ true) × (constants.max ≤ 32768)
unfolding device_fault is_greatest_size
greatest-size constants setup valid =
    let exit = exit_fault constants setup.objects in
    let queues = unless-none (nat_lt 64 constants.queues) setup_fault.Queues (cond (nat_lt 64 (length constants.masks)) (Some setup_fault.Workers) (cond (not (is_greatest_size constants.max)) (Some setup_fault.QueueSize) exit)) (fails-none constants setup valid).device in
    let workers = unless-none (nat_lt 64 (length constants.masks)) setup_fault.Workers (cond (not (is_greatest_size constants.max)) (Some setup_fault.QueueSize) exit) queues.1 in
    let size = unless-none (not (is_greatest_size constants.max)) setup_fault.QueueSize exit workers.1 in
    let both = and_parts (is_power_of_two constants.max) (nat_le constants.max 32768) (not-false (is_greatest_size constants.max) size.0) in
    (both.0, leb-true constants.max 32768 both.1)

pub rings-sound : (constants : Constants) (setup : Setup) → IsValid constants setup → ring_fault constants setup.objects [] setup.rings ≡ None
rings-sound constants setup valid = (fails-none constants setup valid).rings

-- no element passes a test for whose first there is none
none-here : {X : Type 0} (p : X → Bool) (xs : List X) → length xs ≤ position_or_len p xs → AllByRecursion (λ x. p x ≡ false) xs
none-here p [] past = tt
none-here p (x ∷ xs) past =
    elim (cases_Bool (p x)) [
      | inl t ↦ absurd (let first : position_or_len p (x ∷ xs) ≡ 0 = rw t refl in omega arith)
      | inr f ↦ (let next : position_or_len p (x ∷ xs) ≡ suc (position_or_len p xs) = rw f (omega arith) in (f, none-here p xs (omega arith)))
    ]

pub none-passes : {X : Type 0} (p : X → Bool) (xs : List X) → position p xs ≡ None → AllByRecursion (λ x. p x ≡ false) xs
none-passes p xs is =
    elim (cases_Bool (ltb (position_or_len p xs) (length xs))) [
      | inl t ↦ absurd (let h : Some (position_or_len p xs) ≡ None = sym (cond-true (ltb (position_or_len p xs) (length xs)) (Some (position_or_len p xs)) None t) ∙ is in cc)
      | inr f ↦ none-here p xs (ltb-false (position_or_len p xs) (length xs) f)
    ]

pub map-none : {X Y : Type 0} (f : X → Y) (o : Option X) → option_map f o ≡ None → o ≡ None
map-none f None is = refl
map-none f (Some x) is = absurd cc

-- what each request of a valid set-up names is there
requests-sound : (constants : Constants) (setup : Setup) → IsValid constants setup → AllByRecursion (λ r. not (is_answerable constants setup.objects r) ≡ false) setup.requests
unfolding request_fault
requests-sound constants setup valid =
    let first = position (λ r. not (is_answerable constants setup.objects r)) setup.requests in
    none-passes (λ r. not (is_answerable constants setup.objects r)) setup.requests (map-none (λ i. setup_fault.Request i) first (fails-none constants setup valid).requests)

-- what is asked of a ring behind these
pub record IsSound (constants : Constants) (objects : List Object) (earlier : List GivenRing) (r : GivenRing) : Type 0 where
  pub there : r.queue < constants.queues
  pub first : is_first_of_queue earlier r.queue ≡ true
  pub power : is_power_of_two r.size ≡ true
  pub size : r.size ≤ constants.max
  pub event : is_event_or_none objects r.kick ≡ true
  pub free : is_free_or_none constants earlier r.kick ≡ true

-- and whatever ring comes before it
pub record IsSoundSize (constants : Constants) (r : GivenRing) : Type 0 where
  pub there : r.queue < constants.queues
  pub power : is_power_of_two r.size ≡ true
  pub size : r.size ≤ constants.max

sound-parts : (constants : Constants) (objects : List Object) (earlier : List GivenRing) (r : GivenRing) → ring_is_sound constants objects earlier r ≡ true → IsSound constants objects earlier r
unfolding ring_is_sound
sound-parts constants objects earlier r is =
    let a = nat_lt r.queue constants.queues in
    let b = is_first_of_queue earlier r.queue in
    let c = is_power_of_two r.size in
    let d = nat_le r.size constants.max in
    let e = is_aligned r.info in
    let f = is_event_or_none objects r.kick in
    let g = is_event_or_none objects r.call in
    let free = and_parts (a && b && c && d && e && f && g) (is_free_or_none constants earlier r.kick) is in
    let call = and_parts (a && b && c && d && e && f) g free.0 in
    let kick = and_parts (a && b && c && d && e) f call.0 in
    let aligned = and_parts (a && b && c && d) e kick.0 in
    let fits = and_parts (a && b && c) d aligned.0 in
    let power = and_parts (a && b) c fits.0 in
    let first = and_parts a b power.0 in
    record { there = ltb-true r.queue constants.queues first.0; first = first.1; power = power.1; size = leb-true r.size constants.max fits.1; event = kick.1; free = free.1 }

cond-none : (b : Bool) (rest : Option SetupFault) (fault : SetupFault) → cond b rest (Some fault) ≡ None → (b ≡ true) × (rest ≡ None)
cond-none true rest fault is = (refl, is)
cond-none false rest fault is = absurd cc

fault-parts : (constants : Constants) (objects : List Object) (earlier : List GivenRing) (r : GivenRing) (rings : List GivenRing) → ring_fault constants objects earlier (r ∷ rings) ≡ None
    → IsSound constants objects earlier r × (ring_fault constants objects (earlier ++ r ∷ []) rings ≡ None)
unfolding ring_fault
fault-parts constants objects earlier r rings is =
    let parts = cond-none (ring_is_sound constants objects earlier r) (ring_fault constants objects (earlier ++ r ∷ []) rings) (setup_fault.Ring (length earlier)) is in
    (sound-parts constants objects earlier r parts.0, parts.1)

pub among-left : {X : Type 0} (xs : List X) (y x : X) → Among xs x → Among (xs ++ y ∷ []) x
among-left [] y x among = absurd among
among-left (z ∷ xs) y x (inl same) = inl same
among-left (z ∷ xs) y x (inr more) = inr (among-left xs y x more)

pub among-new : {X : Type 0} (xs : List X) (y : X) → Among (xs ++ y ∷ []) y
among-new [] y = inl refl
among-new (z ∷ xs) y = inr (among-new xs y)

all-among : {X : Type 0} (p : X → Bool) (xs : List X) (x : X) → list_all p xs ≡ true → Among xs x → p x ≡ true
all-among p [] x all among = absurd among
all-among p (y ∷ ys) x all (inl same) = ap p (sym same) ∙ (and_parts (p y) (list_all p ys) all).0
all-among p (y ∷ ys) x all (inr more) = all-among p ys x (and_parts (p y) (list_all p ys) all).1 more

all-at : {X : Type 0} (p : X → Bool) (xs : List X) (i : ℕ) (d x : X) → list_all p xs ≡ true → i < length xs → get_or xs i d ≡ x → p x ≡ true
all-at p [] i d x all low is = absurd (omega arith)
all-at p (y ∷ ys) zero d x all low is = ap p (sym is) ∙ (and_parts (p y) (list_all p ys) all).0
all-at p (y ∷ ys) (suc i) d x all low is = all-at p ys i d x (and_parts (p y) (list_all p ys) all).1 (omega arith) is

not-number : (number : Option ℕ) (o x : ℕ) → not (is_object number o) ≡ true → number ≡ Some x → o ≡ x → ⊥
not-number None o x h is same = absurd cc
not-number (Some y) o x h is same =
    let e : y ≡ o = (let f : y ≡ x = cc in f ∙ sym same) in
    let yes = eq-eqb y o e in
    let no = not-true (eqb y o) h in
    absurd cc

-- a kick is no exit object and no earlier kick
pub free-parts : (constants : Constants) (earlier : List GivenRing) (o : ℕ) → is_free constants earlier o ≡ true
    → ((k x : ℕ) → slice_index_or constants.exits k None ≡ Some x → o ≡ x → ⊥) × ((t : GivenRing) → Among earlier t → (x : ℕ) → t.kick ≡ Some x → o ≡ x → ⊥)
unfolding is_free
free-parts constants earlier o is =
    let kicks : Bool = list_all (λ (ring : GivenRing). not (is_object ring.kick o)) earlier in
    let parts = and_parts kicks (list_all (λ exit. not (is_object exit o)) constants.exits) is in (
      (λ k x at same. elim (cases_lt k (length constants.exits)) [
        | inl low ↦ not-number (Some x) o x (all-at (λ exit. not (is_object exit o)) constants.exits k None (Some x) parts.1 low at) refl same
        | inr past ↦ absurd (let none = get_or_past constants.exits k None past in cc)
      ]),
      (λ t among x at same. not-number t.kick o x (all-among (λ (ring : GivenRing). not (is_object ring.kick o)) earlier t parts.0 among) at same),
    )

pub object-below : (objects : List Object) (o : ℕ) → is_event objects o ≡ true → o < length objects
unfolding is_event
object-below [] o is = absurd cc
object-below (x ∷ objects) zero is = omega arith
object-below (x ∷ objects) (suc o) is = omega (arith, object-below objects o is)

-- each given ring is sound
pub given-sound : (constants : Constants) (objects : List Object) (earlier rest : List GivenRing) (r : GivenRing) → ring_fault constants objects earlier rest ≡ None → Among rest r → IsSoundSize constants r
given-sound constants objects earlier [] r sound among = absurd among
given-sound constants objects earlier (x ∷ rest) r sound (inl same) =
    let its = (fault-parts constants objects earlier x rest sound).0 in
    subst (IsSoundSize constants) same (record { there = its.there; power = its.power; size = its.size })
given-sound constants objects earlier (x ∷ rest) r sound (inr more) = given-sound constants objects (earlier ++ x ∷ []) rest r (fault-parts constants objects earlier x rest sound).1 more

-- Given rings are found by their queues

queue-apart : (constants : Constants) (objects : List Object) (earlier rest : List GivenRing) (r y : GivenRing) → ring_fault constants objects earlier rest ≡ None → Among rest r → Among earlier y → y.queue ≡ r.queue → ⊥
queue-apart constants objects earlier [] r y sound among old same = absurd among
queue-apart constants objects earlier (x ∷ rest) r y sound among old same =
    let parts = fault-parts constants objects earlier x rest sound in
    by among parts.0 (queue-apart constants objects (earlier ++ x ∷ []) rest r y parts.1) where
      by : (x ≡ r) ⊎ Among rest r → IsSound constants objects earlier x → (Among rest r → Among (earlier ++ x ∷ []) y → y.queue ≡ r.queue → ⊥) → ⊥
      by (inl here) s later =
          let no : eqb y.queue x.queue ≡ false = not-true (eqb y.queue x.queue) (all-among (λ (other : GivenRing). not (eqb other.queue x.queue)) earlier y s.first old) in
          let e : y.queue ≡ x.queue = same ∙ ap (λ (z : GivenRing). z.queue) (sym here) in
          let yes = eq-eqb y.queue x.queue e in
          absurd cc
      by (inr more) s later = later more (among-left earlier x y old) same

find-own : (constants : Constants) (objects : List Object) (earlier rest : List GivenRing) (r : GivenRing) → ring_fault constants objects earlier rest ≡ None → Among rest r → find (λ (x : GivenRing). eqb x.queue r.queue) rest ≡ Some r
find-own constants objects earlier [] r sound among = absurd among
find-own constants objects earlier (x ∷ rest) r sound (inl same) =
    let yes : eqb x.queue r.queue ≡ true = eq-eqb x.queue r.queue (ap (λ (z : GivenRing). z.queue) same) in
    ap (λ b. cond {A = Option GivenRing} b (Some x) (find (λ (x : GivenRing). eqb x.queue r.queue) rest)) yes ∙ ap (λ y. Some y) same
find-own constants objects earlier (x ∷ rest) r sound (inr more) =
    let parts = fault-parts constants objects earlier x rest sound in
    let no : eqb x.queue r.queue ≡ false = apart-false (λ same. queue-apart constants objects (earlier ++ x ∷ []) rest r x parts.1 more (among-new earlier x) same) in
    ap (λ b. cond {A = Option GivenRing} b (Some x) (find (λ (x : GivenRing). eqb x.queue r.queue) rest)) no ∙ find-own constants objects (earlier ++ x ∷ []) rest r parts.1 more where
      apart-false : (x.queue ≡ r.queue → ⊥) → eqb x.queue r.queue ≡ false
      apart-false other = ne_eqb x.queue r.queue other

pub found-in : (q : ℕ) (rings : List GivenRing) (r : GivenRing) → find (λ (x : GivenRing). eqb x.queue q) rings ≡ Some r → Among rings r × (r.queue ≡ q)
found-in q [] r is = absurd cc
found-in q (x ∷ rings) r is = by (eqb x.queue q) refl (found-in q rings r) is where
  by : (b : Bool) → eqb x.queue q ≡ b → (find (λ (x : GivenRing). eqb x.queue q) rings ≡ Some r → Among rings r × (r.queue ≡ q)) → cond {A = Option GivenRing} b (Some x) (find (λ (x : GivenRing). eqb x.queue q) rings) ≡ Some r → Among (x ∷ rings) r × (r.queue ≡ q)
  by true at later is = (let e : x ≡ r = cc in (inl e, ap (λ (z : GivenRing). z.queue) (sym e) ∙ eqb-true x.queue q at))
  by false at later is = (let old = later is in (inr old.0, old.1))

-- Before the registration

pub events-at : (objects : List Object) (masks : List ℕ) (P : Option Event → Type 0) → ((flags : ℕ) → P (Some (new_event flags))) → (o : ℕ) (d : Option Event) → o < length objects + length masks → P (get_or (opening_events objects masks) o d)
events-at [] [] P each o d low = absurd (omega arith)
events-at [] (mask ∷ masks) P each zero d low = each 0
events-at [] (mask ∷ masks) P each (suc o) d low = events-at [] masks P each o d (omega arith)
events-at (x ∷ objects) masks P each zero d low = each (flags_of x)
events-at (x ∷ objects) masks P each (suc o) d low = events-at objects masks P each o d (omega arith)

abbrev no-numbers : List ℕ → List (List ℕ)
no-numbers masks = map (λ mask. []) masks

nil-at : (masks : List ℕ) (k : ℕ) → slice_index_or (no-numbers masks) k [] ≡ []
nil-at [] k = refl
nil-at (mask ∷ masks) zero = refl
nil-at (mask ∷ masks) (suc k) = nil-at masks k

idle-fits : (g : Wiring) (worker : ℕ) (masks : List ℕ) (k : ℕ) → PhaseFits g worker (phase_at (map (λ mask. Idle) masks) k)
idle-fits g worker [] k = tt
idle-fits g worker (mask ∷ masks) zero = tt
idle-fits g worker (mask ∷ masks) (suc k) = idle-fits g worker masks k

idle-hand : (masks : List ℕ) (k q : ℕ) → HasInHand (phase_at (map (λ mask. Idle) masks) k) q → ⊥
idle-hand [] k q hand = hand
idle-hand (mask ∷ masks) zero q hand = hand
idle-hand (mask ∷ masks) (suc k) q hand = idle-hand masks k q hand

all-weaker : (P Q : Member → Type 0) → ((m : Member) → P m → Q m) → (ms : List Member) → AllByRecursion P ms → AllByRecursion Q ms
all-weaker P Q f [] all = tt
all-weaker P Q f (m ∷ ms) all = (f m all.0, all-weaker P Q f ms all.1)

pub record Owner (P : Member → Type 0) (o : ℕ) : Type 0 where
  pub member : Member
  pub holds : P member
  pub object : member.object ≡ o

member-owner : (P : Member → Type 0) (ms : List Member) (o : ℕ) → AllByRecursion P ms → is_member ms o ≡ true → Owner P o
member-owner P [] o all is = absurd cc
member-owner P (m ∷ ms) o all is = by (eqb m.object o) refl (member-owner P ms o all.1) is where
  by : (b : Bool) → eqb m.object o ≡ b → (is_member ms o ≡ true → Owner P o) → is_some (cond {A = Option Member} b (Some m) (member_of ms o)) ≡ true → Owner P o
  by true at later is = record { member = m; holds = all.0; object = eqb-true m.object o at }
  by false at later is = later is

module _ (constants : Constants) (objects : List Object) (given : List GivenRing) (valid : ring_fault constants objects [] given ≡ None) where
  abbrev count : ℕ
  count = length objects

  abbrev workers : ℕ
  workers = length constants.masks

  abbrev g : Wiring
  g = wiring_of constants count

  abbrev rings : List Vring
  rings = opening_rings constants given

  opened-size : length g.opened ≡ workers
  opened-size = length-map-range_with_len (λ w. opened_worker count constants.exits w) 0 workers

  opened-is : (k : ℕ) → k < workers → opened_at g k ≡ opened_worker count constants.exits k
  opened-is k low = get_or-map-range_with_len (λ w. opened_worker count constants.exits w) 0 workers k k no_worker low (omega arith)

  rings-size : length rings ≡ constants.queues
  rings-size = length-map-range_with_len (λ q. ring_from constants.max (find (λ (r : GivenRing). eqb r.queue q) given)) 0 constants.queues

  abbrev at_ring : ℕ → Vring
  at_ring q = slice_index_or rings q closed_ring

  ring-is : (q : ℕ) → q < constants.queues → at_ring q ≡ ring_from constants.max (find (λ (r : GivenRing). eqb r.queue q) given)
  ring-is q low = get_or-map-range_with_len (λ q. ring_from constants.max (find (λ (r : GivenRing). eqb r.queue q) given)) 0 constants.queues q q closed_ring low (omega arith)

  -- a given ring stands at its queue
  ring-given : (r : GivenRing) → Among given r → r.queue < constants.queues → at_ring r.queue ≡ given_vring constants.max r
  ring-given r among low = ring-is r.queue low ∙ ap (ring_from constants.max) (find-own constants objects [] given r valid among)

  -- and a ring with a kick was given
  pub record Given (q o : ℕ) : Type 0 where
    pub ring : GivenRing
    pub among : Among given ring
    pub queue : ring.queue ≡ q
    pub kick : ring.kick ≡ Some o
    pub on : is_on (at_ring q) ≡ (ring.ready && ring.enabled)

  given-of : (q o : ℕ) → (at_ring q).kick ≡ Some o → Given q o
  given-of q o kick =
      elim (cases_lt q (length rings)) [
        | inl within ↦ (let low : q < constants.queues = omega (arith, within, rings-size) in by (find (λ (r : GivenRing). eqb r.queue q) given) refl (ring-is q low))
        | inr past ↦ absurd (let none = ap (λ (r : Vring). r.kick) (get_or_past rings q closed_ring past) in cc)
      ] where
        by : (found : Option GivenRing) → find (λ (r : GivenRing). eqb r.queue q) given ≡ found → at_ring q ≡ ring_from constants.max found → Given q o
        by None at is = absurd (let none = ap (λ (r : Vring). r.kick) is in cc)
        by (Some r) at is =
            let old = found-in q given r at in
            record { ring = r; among = old.0; queue = old.1; kick = ap (λ (x : Vring). x.kick) (sym is) ∙ kick; on = ap is_on is }

  -- nothing was taken
  none-taken : (q : ℕ) → ((at_ring q).flight ≡ flight.None) × ((at_ring q).taken ≡ 0)
  none-taken q =
      elim (cases_lt q (length rings)) [
        | inl within ↦ (let low : q < constants.queues = omega (arith, within, rings-size) in rw (ring-is q low) (by (find (λ (r : GivenRing). eqb r.queue q) given)))
        | inr past ↦ rw (get_or_past rings q closed_ring past) (refl, refl)
      ] where
        by : (found : Option GivenRing) → ((ring_from constants.max found).flight ≡ flight.None) × ((ring_from constants.max found).taken ≡ 0)
        by None = (refl, refl)
        by (Some r) = (refl, refl)

  -- The world before the rings are registered

  no-claim : (o : ℕ) → claim_of (event_at (opening_table constants objects) o) ≡ None
  no-claim o =
      elim (cases_lt o (length objects + length constants.masks)) [
        | inl low ↦ events-at objects constants.masks (λ e. claim_of e ≡ None) (λ flags. refl) o None low
        | inr past ↦ ap claim_of (get_or_past (opening_events objects constants.masks) o None (omega (arith, past, events-size)))
      ] where
        events-size : length (opening_events objects constants.masks) ≡ length objects + length constants.masks
        events-size = length-append (map (λ o. Some (new_event (flags_of o))) objects) (map (λ mask. Some (new_event 0)) constants.masks) ∙ sizes where
          sizes : length (map (λ o. Some (new_event (flags_of o))) objects) + length (map (λ (mask : ℕ). Some (new_event 0)) constants.masks) ≡ length objects + length constants.masks
          sizes = omega (arith, length-map objects (λ o. Some (new_event (flags_of o))), length-map constants.masks (λ (mask : ℕ). Some (new_event 0)))

  members-are : (k : ℕ) → k < workers → members_at (opening_table constants objects) k ≡ with_member (exit_member (slice_index_or constants.exits k None) constants.queues) (listed (count + k) constants.queues)
  members-are k low =
      mapped-at (λ w. opening_members constants.queues w) g.opened k no_worker [] (omega (arith, low, opened-size)) ∙ ap (λ w. opening_members constants.queues w) (opened-is k low)

  exit-listed : (k : ℕ) (exit : Option ℕ) → slice_index_or constants.exits k None ≡ exit → AllByRecursion (IsListed g count constants.exits rings k) (exit_member exit constants.queues)
  exit-listed k None is = tt
  exit-listed k (Some x) is = (record { asks = refl; is = inr (refl, inr is) }, tt)

  exit-in : (x : ℕ) (exit : Option ℕ) → exit ≡ Some x → is_member (exit_member exit constants.queues) x ≡ true
  exit-in x exit is = let P : Option ℕ → Type 0 = λ e. is_member (exit_member e constants.queues) x ≡ true in subst P (sym is) (with-own [] (listed x constants.queues))

  module _ {V : Type 0} (regions : List GivenRegion) (requests : List Request) (guest : List Guest) (v : V) where
    abbrev setup : Setup
    setup = record { objects = objects; regions = regions; rings = given; requests = requests; guest = guest }

    first-stage : Stage g count workers constants.exits rings [] [] (before_rings constants setup v)
    first-stage = record {
      rings_are = refl;
      lists = length-map g.opened (λ w. opening_members constants.queues w) ∙ opened-size;
      objects = events-size;
      pending = length-map constants.masks (λ mask. []);
      some = λ o low. events-at objects constants.masks (λ e. is_some e ≡ true) (λ flags. refl) o None low;
      members = λ k low. rw (members-are k low) (with-all (IsListed g count constants.exits rings k) (exit_member (slice_index_or constants.exits k None) constants.queues) (listed (count + k) constants.queues) (record { asks = refl; is = inr (refl, inl refl) }) (exit-listed k (slice_index_or constants.exits k None) refl));
      bell = λ k low. rw (members-are k low) (with-own (exit_member (slice_index_or constants.exits k None) constants.queues) (listed (count + k) constants.queues));
      exit = λ k x low is. rw (members-are k low) (with-kept (exit_member (slice_index_or constants.exits k None) constants.queues) (listed (count + k) constants.queues) x (exit-in x (slice_index_or constants.exits k None) is));
      free = λ k low. no-claim (count + k);
      exit_free = λ k x is. no-claim x;
      claimed_all = λ r among. absurd among;
      joined_all = λ r among. absurd among;
      numbers = λ k n has. absurd (has-none n (ap (has_number n) (sym (nil-at constants.masks k)) ∙ has));
      rung = λ k low some. absurd (some (nil-at constants.masks k));
    } where
      events-size : length (opening_events objects constants.masks) ≡ length objects + length constants.masks
      events-size = omega (arith, length-append (map (λ o. Some (new_event (flags_of o))) objects) (map (λ (mask : ℕ). Some (new_event 0)) constants.masks), length-map objects (λ o. Some (new_event (flags_of o))), length-map constants.masks (λ (mask : ℕ). Some (new_event 0)))

  -- The registration of a ring

  module _ {V : Type 0} (done : List GivenRing) (h : Shared V) (s : Stage g count workers constants.exits rings done done h) (r : GivenRing) (among : Among given r) (sound : IsSound constants objects done r) where
    abbrev Next : Shared V → Type 0
    Next z = Stage g count workers constants.exits rings (done ++ r ∷ []) (done ++ r ∷ []) z

    join-place : (o : ℕ) → r.kick ≡ Some o → r.ready && r.enabled ≡ true → Stage g count workers constants.exits rings (done ++ r ∷ []) done (claimed h o r.queue) → (place : Option Place) → place_of g r.queue ≡ place → Next (placed g (claimed h o r.queue) o place)
    join-place o kick on t None at = join-none g count workers constants.exits rings (done ++ r ∷ []) done (claimed h o r.queue) t r (λ x k n its is place. let e = sym at ∙ place in absurd cc)
    join-place o kick on t (Some p) at =
        let here : IsPlaced g r.queue p.worker p.number = record { there = sound.there; place = at } in
        let low : p.worker < workers = (place-is g r.queue p.worker p.number here).below in
        let ring = ring-given r among sound.there in
        let P : Opened → Type 0 = λ w. Next (raised (inserted (joined (claimed h o r.queue) w.list o p.number) p.worker p.number) w.bell) in
        subst P (sym (opened-is p.worker low))
        (join-kick g count workers constants.exits rings (done ++ r ∷ []) done (claimed h o r.queue) t r o kick p.worker p.number low here (ap (λ (x : Vring). x.kick) ring ∙ kick) (ap is_on ring ∙ on))

    join-on : (o : ℕ) → r.kick ≡ Some o → Stage g count workers constants.exits rings (done ++ r ∷ []) done (claimed h o r.queue) → (b : Bool) → r.ready && r.enabled ≡ b → Next (cond {A = Shared V} b (placed g (claimed h o r.queue) o (place_of g r.queue)) (claimed h o r.queue))
    join-on o kick t true on = join-place o kick on t (place_of g r.queue) refl
    join-on o kick t false off = join-none g count workers constants.exits rings (done ++ r ∷ []) done (claimed h o r.queue) t r (λ x k n its on place. let e = sym off ∙ on in absurd cc)

    register : (kick : Option ℕ) → r.kick ≡ kick → Next (registered_kick g h r kick)
    register None is = join-none g count workers constants.exits rings (done ++ r ∷ []) done h (claim-none g count workers constants.exits rings done done h s r is) r (λ x k n its on place. let e = sym is ∙ its in absurd cc)
    register (Some o) is =
        let free = free-parts constants done o (ap (is_free_or_none constants done) (sym is) ∙ sound.free) in
        let below = object-below objects o (ap (is_event_or_none objects) (sym is) ∙ sound.event) in
        join-on o is (claim-kick g count workers constants.exits rings done done h s r o is below free.0 free.1) (r.ready && r.enabled) refl

  register-all : {V : Type 0} (done rest : List GivenRing) (h : Shared V) → ring_fault constants objects done rest ≡ None → ((r : GivenRing) → Among rest r → Among given r) → Stage g count workers constants.exits rings done done h
      → Stage g count workers constants.exits rings (done ++ rest) (done ++ rest) (fold (λ h r. registered g h r) h rest)
  register-all {V} done [] h sound all s = let P : List GivenRing → Type 0 = λ l. Stage g count workers constants.exits rings l l h in subst P (sym (append-nil done)) s
  register-all {V} done (r ∷ rest) h sound all s =
      let parts = fault-parts constants objects done r rest sound in
      let next = register done h s r (all r (inl refl)) parts.0 r.kick refl in
      let P : List GivenRing → Type 0 = λ l. Stage g count workers constants.exits rings l l (fold (λ h r. registered g h r) (registered g h r) rest) in
      subst P (append_assoc done (r ∷ []) rest) (register-all (done ++ r ∷ []) rest (registered g h r) parts.1 (λ x among. all x (inr among)) next)

  -- What the registration of all rings leaves

  module _ {V : Type 0} (h : Shared V) (s : Stage g count workers constants.exits rings given given h) where
    abbrev f : Frame
    f = frame_of h

    ring-here : (q : ℕ) → ring_at h q ≡ at_ring q
    ring-here q = ap (λ l. slice_index_or l q closed_ring) s.rings_are

    kick-here : (q : ℕ) → (known_at f q).kick ≡ (at_ring q).kick
    kick-here q = kick-ring h q ∙ ap (λ (x : Vring). x.kick) (ring-here q)

    on-here : (q : ℕ) → ((known_at f q).ready && (known_at f q).enabled) ≡ is_on (at_ring q)
    on-here q = ap (λ (x : Known). x.ready && x.enabled) (known-ring h q) ∙ ap is_on (ring-here q)

    low-of : (k : ℕ) → k < length g.opened → k < workers
    low-of k below = omega (arith, below, opened-size)

    -- what holds of a worker as it was opened
    opened : (P : Opened → Type 0) (k : ℕ) → k < workers → P (opened_worker count constants.exits k) → P (opened_at g k)
    opened P k low here = subst P (sym (opened-is k low)) here

    own-of : (k : ℕ) → k < workers → (m : Member) → IsListed g count constants.exits rings k m → IsOwn g f k m
    own-of k low m l = record { asks = l.asks; is = which l.is } where
      which : IsOnKick g rings k m ⊎ ((m.token ≡ g.queues) × ((m.object ≡ count + k) ⊎ (slice_index_or constants.exits k None ≡ Some m.object))) → IsKick g f k m ⊎ (IsBellOrExit g f k m ⊎ IsListener g f k m)
      which (inl kick) = inl (record { queue = kick.queue; placed = kick.placed; kick = kick-here kick.queue ∙ kick.kick })
      which (inr (token, inl bell)) = inr (inl (record { token = token; object = inl (opened (λ w. m.object ≡ w.bell) k low bell); free = claim-event h m.object ∙ (ap (λ x. claim_of (event_at h.table x)) bell ∙ s.free k low) }))
      which (inr (token, inr exit)) = inr (inl (record { token = token; object = inr (opened (λ w. w.exit ≡ Some m.object) k low exit); free = claim-event h m.object ∙ s.exit_free k m.object exit }))

    claimed-here : (q o : ℕ) → (at_ring q).kick ≡ Some o → claim_of (event_at h.table o) ≡ Some q
    claimed-here q o kick = let r = given-of q o kick in s.claimed_all r.ring r.among o r.kick ∙ ap (λ x. Some x) r.queue

    linked-here : Linked g f
    linked-here = record {
      members = λ k below. opened (λ w. AllByRecursion (IsOwn g f k) (members_at h.table w.list)) k (low-of k below) (all-weaker (IsListed g count constants.exits rings k) (IsOwn g f k) (own-of k (low-of k below)) (members_at h.table k) (s.members k (low-of k below)));
      bell = λ k below. opened (λ w. is_member (members_at h.table w.list) w.bell ≡ true) k (low-of k below) (s.bell k (low-of k below));
      exit = λ k x below is. opened (λ w. is_member (members_at h.table w.list) x ≡ true) k (low-of k below) (s.exit k x (low-of k below) (sym (ap (λ (w : Opened). w.exit) (opened-is k (low-of k below))) ∙ is));
      free = λ k below. opened (λ w. claim_at f w.bell ≡ None) k (low-of k below) (claim-event h (count + k) ∙ s.free k (low-of k below));
      exit_free = λ k x below is. claim-event h x ∙ s.exit_free k x (sym (ap (λ (w : Opened). w.exit) (opened-is k (low-of k below))) ∙ is);
      apart = λ v w a b same.
          let left : (opened_at g v).bell ≡ count + v = ap (λ (x : Opened). x.bell) (opened-is v (low-of v a)) in
          let right : (opened_at g w).bell ≡ count + w = ap (λ (x : Opened). x.bell) (opened-is w (low-of w b)) in
          omega (arith, left, right, same);
      claimed = λ q o kick. claim-event h o ∙ claimed-here q o (sym (kick-here q) ∙ kick);
    }

    joined-here : (q k n o : ℕ) → k < workers → IsPlaced g q k n → (at_ring q).kick ≡ Some o → is_on (at_ring q) ≡ true → (is_member (members_at h.table k) o ≡ true) × (has_number n (pending_at h k) ≡ true)
    joined-here q k n o low at kick on =
        let r = given-of q o kick in
        s.joined_all r.ring r.among o k n r.kick (sym r.on ∙ on) low (ap (place_of g) r.queue ∙ at.place)

    -- the kick of a queue that is not on is no member
    not-listed : (q k n o : ℕ) → k < workers → (at_ring q).kick ≡ Some o → is_on (at_ring q) ≡ false → is_member (members_at h.table k) o ≡ true → ⊥
    not-listed q k n o low kick off is = refuse (member-owner (IsListed g count constants.exits rings k) (members_at h.table k) o (s.members k low) is) where
      claim : claim_of (event_at h.table o) ≡ Some q
      claim = claimed-here q o kick

      unclaimed : (x : ℕ) → x ≡ o → claim_of (event_at h.table x) ≡ None → ⊥
      unclaimed x same none = let e : claim_of (event_at h.table o) ≡ None = ap (λ y. claim_of (event_at h.table y)) (sym same) ∙ none in let c = claim in absurd cc

      which : (m : Member) → m.object ≡ o → IsOnKick g rings k m ⊎ ((m.token ≡ g.queues) × ((m.object ≡ count + k) ⊎ (slice_index_or constants.exits k None ≡ Some m.object))) → ⊥
      which m same (inl its) =
          let other : claim_of (event_at h.table o) ≡ Some its.queue = claimed-here its.queue o (its.kick ∙ ap (λ x. Some x) same) in
          let c = claim in
          let queue : its.queue ≡ q = cc in
          let on : is_on (at_ring q) ≡ true = ap (λ x. is_on (at_ring x)) (sym queue) ∙ its.on in
          absurd cc
      which m same (inr (token, inl bell)) = unclaimed (count + k) (sym bell ∙ same) (s.free k low)
      which m same (inr (token, inr exit)) = unclaimed m.object same (s.exit_free k m.object exit)

      refuse : Owner (IsListed g count constants.exits rings k) o → ⊥
      refuse owner = which owner.member owner.object owner.holds.is

    wired-here : Wired g f
    wired-here = record {
      known = length-map h.rings known_of ∙ (ap length s.rings_are ∙ rings-size);
      events = length-map h.table.objects claim_of ∙ sym (length-map h.table.objects (λ (e : Option Event). is_some e));
      placed = λ q k n at. let low = (place-is g q k n at).below in omega (arith, low, opened-size);
      within = λ k below. opened (λ w. w.list < length f.lists) k (low-of k below) (let low = low-of k below in let l = s.lists in omega (arith, low, l));
      bells = λ k below. opened (λ w. is_there f w.bell ≡ true) k (low-of k below) (mapped-at (λ (e : Option Event). is_some e) h.table.objects (count + k) None false (let low = low-of k below in let l = s.objects in omega (arith, low, l)) ∙ s.some (count + k) (let low = low-of k below in omega (arith, low)));
      lists = λ v w a b same.
          let left : (opened_at g v).list ≡ v = ap (λ (x : Opened). x.list) (opened-is v (low-of v a)) in
          let right : (opened_at g w).list ≡ w = ap (λ (x : Opened). x.list) (opened-is w (low-of w b)) in
          sym left ∙ (same ∙ right);
    }

    settled-here : Settled g f
    settled-here q k n o below at kick =
        let low = low-of k below in
        let here : (at_ring q).kick ≡ Some o = sym (kick-here q) ∙ kick in
        opened (λ w. is_member (members_at h.table w.list) o ≡ ((known_at f q).ready && (known_at f q).enabled)) k low (by low here (is_on (at_ring q)) refl (is_member (members_at h.table k) o) refl ∙ sym (on-here q)) where
          by : k < workers → (at_ring q).kick ≡ Some o → (b : Bool) → is_on (at_ring q) ≡ b → (c : Bool) → is_member (members_at h.table k) o ≡ c → is_member (members_at h.table k) o ≡ is_on (at_ring q)
          by low here true on c is = (joined-here q k n o low at here on).0 ∙ sym on
          by low here false off true is = absurd (not-listed q k n o low here off is)
          by low here false off false is = is ∙ sym off

-- The opening

-- its rings are the given ones, and the others new
registered-all : {V : Type 0} (constants : Constants) (setup : Setup) (v : V) → IsValid constants setup
    → Stage (wiring_of constants (length setup.objects)) (length setup.objects) (length constants.masks) constants.exits (opening_rings constants setup.rings) setup.rings setup.rings (opening constants setup v).shared
unfolding opening
registered-all constants setup v is_valid =
    let valid = rings-sound constants setup is_valid in
    register-all constants setup.objects setup.rings valid [] setup.rings (before_rings constants setup v) valid (λ r among. among) (first-stage constants setup.objects setup.rings valid setup.regions setup.requests setup.guest v)

-- the ring of a queue is the given one or a new one, and a queue that is not there has none given
pub opening-ring : {V : Type 0} (constants : Constants) (setup : Setup) (v : V) → IsValid constants setup → (q : ℕ)
    → (ring_at (opening constants setup v).shared q ≡ ring_from constants.max (find (λ (r : GivenRing). eqb r.queue q) setup.rings)) ⊎ ((ring_at (opening constants setup v).shared q ≡ closed_ring) × (find (λ (r : GivenRing). eqb r.queue q) setup.rings ≡ None))
opening-ring constants setup v is_valid q =
    let valid = rings-sound constants setup is_valid in
    let here = ring-here constants setup.objects setup.rings valid (opening constants setup v).shared (registered-all constants setup v is_valid) q in
    let size = rings-size constants setup.objects setup.rings valid in
    elim (cases_lt q constants.queues) [
      | inl low ↦ inl (here ∙ ring-is constants setup.objects setup.rings valid q low)
      | inr high ↦ inr (here ∙ get_or_past (opening_rings constants setup.rings) q closed_ring (omega (arith, high, size)), none-found (find (λ (r : GivenRing). eqb r.queue q) setup.rings) refl valid high)
    ] where
      none-found : (found : Option GivenRing) → find (λ (r : GivenRing). eqb r.queue q) setup.rings ≡ found → ring_fault constants setup.objects [] setup.rings ≡ None → constants.queues ≤ q → found ≡ None
      none-found None is valid high = refl
      none-found (Some r) is valid high =
          let its = found-in q setup.rings r is in
          let low = (given-sound constants setup.objects [] setup.rings r valid its.0).there in
          absurd (let same = its.1 in omega (arith, low, high, same))

pub opening-untaken : {V : Type 0} (constants : Constants) (setup : Setup) (v : V) → IsValid constants setup → (q : ℕ) → (ring_at (opening constants setup v).shared q).taken ≡ 0
opening-untaken constants setup v is_valid q =
    let valid = rings-sound constants setup is_valid in
    ap (λ (x : Vring). x.taken) (ring-here constants setup.objects setup.rings valid (opening constants setup v).shared (registered-all constants setup v is_valid) q) ∙ (none-taken constants setup.objects setup.rings valid q).1

-- a request fits the opening of a set-up
abbrev FitsOpening : {V : Type 0} → Constants → Setup → V → Request → Type 0
FitsOpening constants setup v r = RequestFits (wiring_of constants (length setup.objects)) (frame_of (opening constants setup v).shared).events r

-- the requests of a valid set-up fit its opening
pub requests-fit : {V : Type 0} (constants : Constants) (setup : Setup) (v : V) → IsValid constants setup → AllByRecursion (RequestFits (wiring_of constants (length setup.objects)) (frame_of (opening constants setup v).shared).events) setup.requests
unfolding is_answerable
requests-fit {V} constants setup v is_valid = all setup.requests (requests-sound constants setup is_valid) where
  s : Stage (wiring_of constants (length setup.objects)) (length setup.objects) (length constants.masks) constants.exits (opening_rings constants setup.rings) setup.rings setup.rings (opening constants setup v).shared
  s = registered-all constants setup v is_valid

  no-bell : (o : ℕ) → is_event setup.objects o ≡ true → NoBell (wiring_of constants (length setup.objects)) o
  no-bell o is k below same =
      let low = object-below setup.objects o is in
      let valid = rings-sound constants setup is_valid in
      let bell : (opened_at (wiring_of constants (length setup.objects)) k).bell ≡ length setup.objects + k = ap (λ (x : Opened). x.bell) (opened-is constants setup.objects setup.rings valid k (let size = opened-size constants setup.objects setup.rings valid in omega (arith, below, size))) in
      absurd (omega (arith, low, bell, same))

  there : (o : ℕ) → is_event setup.objects o ≡ true → slice_index_or (frame_of (opening constants setup v).shared).events o false ≡ true
  there o is =
      let low = object-below setup.objects o is in
      let long = s.objects in
      mapped-at (λ (e : Option Event). is_some e) (opening constants setup v).shared.table.objects o None false (omega (arith, low, long)) ∙ s.some o (omega (arith, low))

  named : (o worker : ℕ) → is_event setup.objects o && nat_lt worker (length constants.masks) ≡ true → is_event setup.objects o ≡ true
  named o worker is = (and_parts (is_event setup.objects o) (nat_lt worker (length constants.masks)) is).0

  one : (r : Request) → is_answerable constants setup.objects r ≡ true → FitsOpening constants setup v r
  one (request.SetVringKick queue (Some o)) is = (there o is, no-bell o is)
  one (request.SetVringKick queue None) is = tt
  one (request.RegisterListener worker o set token) is = (there o (named o worker is), no-bell o (named o worker is))
  one (request.UnregisterListener worker o set token) is = there o (named o worker is)
  one r is = tt

  all : (requests : List Request) → AllByRecursion (λ r. not (is_answerable constants setup.objects r) ≡ false) requests → AllByRecursion (FitsOpening constants setup v) requests
  all [] sound = tt
  all (r ∷ requests) sound = (one r (not-false (is_answerable constants setup.objects r) sound.0), all requests sound.1)

pub opening-meets : {V : Type 0} (constants : Constants) (setup : Setup) (v : V) → IsValid constants setup → Invariant (opening constants setup v) (is_registered constants setup)
unfolding opening
opening-meets {V} constants setup v is_valid =
    let fit = requests-fit constants setup v is_valid in
    let valid = rings-sound constants setup is_valid in
    let objects = setup.objects in
    let given = setup.rings in
    let g = wiring_of constants (length objects) in
    let h : Shared V = fold (λ h r. registered g h r) (before_rings constants setup v) given in
    let s = registered-all constants setup v is_valid in
    let size = opened-size constants objects given valid in
    record {
      rings_size = ap length s.rings_are ∙ rings-size constants objects given valid;
      phases_size = length-map constants.masks (λ mask. Idle) ∙ sym size;
      pending_size = s.pending ∙ sym size;
      linked = linked-here constants objects given valid h s;
      wired = wired-here constants objects given valid h s;
      safe = (begun-all g (frame_of h) (wired-here constants objects given valid h s) (linked-here constants objects given valid h s) h.guest.regions (new_control setup) (settled-here constants objects given valid h s) fit).0;
      requests = (begun-all g (frame_of h) (wired-here constants objects given valid h s) (linked-here constants objects given valid h s) h.guest.regions (new_control setup) (settled-here constants objects given valid h s) fit).1;
      numbers = s.numbers;
      phases = λ k. idle-fits g k constants.masks k;
      flies = λ q is. absurd (let none = ap (λ (x : Vring). x.flight) (ring-here constants objects given valid h s q) ∙ (none-taken constants objects given valid q).0 in cc);
      hands = λ k q hand. absurd (idle-hand constants.masks k q hand);
      rung = λ k below some. inl (ringing (opened constants objects given valid h s (λ w. 0 < count_at h.table w.bell) k (low-of constants objects given valid h s k below) (s.rung k (low-of constants objects given valid h s k below) some)));
      awake = λ q k n o at goes kick member on addresses calms left.
          inl (waiting (joined-here constants objects given valid h s q k n o (place-is g q k n at).below at (ap (λ (x : Vring). x.kick) (sym (ring-here constants objects given valid h s q)) ∙ kick) (ap is_on (sym (ring-here constants objects given valid h s q)) ∙ on)).1);
    }
