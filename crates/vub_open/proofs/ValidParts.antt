-- What a set-up keeps that fails no test.
use Rattle.std.proofs.Common.{◌≡◌, ℕ, suc, ◌<◌, ◌≤◌, Bool, true, false, not, ◌&&◌, cond, List, [], ◌∷◌, ◌++◌, length, take, drop_of_length-le, Option, Some, None, is_some, option_map, position, inl, inr, refl, sym, ap, ◌∙◌, arith, ltb, leb}
use Rattle.std.specs.List.{AllByRecursion, position_or_len}
use Rattle.std.specs.Int.{is_power_of_two}
use Rattle.std.proofs.lemmas.List.{append-nil, take-append-drop}
use Rattle.std.proofs.lemmas.Bool.{cases_Bool, ltb-true, ltb-false, leb-true, cond-true, cond-false}
use Rattle.vub_model.specs.declared.constants.Constants.{Constants}
use Rattle.vub_model.specs.declared.run.SetupFault.{SetupFault}
use Rattle.vub_model.specs.declared.run.SetupFault.TheVariants as setup_fault
use Rattle.vub_model.specs.declared.setup.GivenRing.{GivenRing}
use Rattle.vub_model.specs.declared.setup.GivenRegion.{GivenRegion}
use Rattle.vub_model.specs.declared.setup.Guest.{Guest}
use Rattle.vub_model.specs.declared.setup.Object.{Object}
use Rattle.vub_model.specs.declared.setup.Setup.{Setup}
use Rattle.vub_open.specs.Opened.{IsFit}
use Rattle.vub_model.specs.ValidSetup.{or_else, is_greatest_size, is_event_or_none, content_len, exit_fault, device_fault, region_fault, given_table_fault, ring_is_sound, is_first_of_queue, is_aligned, is_free_or_none, ring_fault, is_possible, first_impossible, request_fault, guest_fault, log_object_fault, fault_of}

-- Facts of all elements

none_here : {X : Type 0} → (p : X → Bool) (xs : List X) → length xs ≤ position_or_len p xs → AllByRecursion (λ x. p x ≡ false) xs
none_here p [] h = tt
none_here p (x ∷ xs) h =
    elim (cases_Bool (p x)) [
      | inl t ↦ absurd (let first : position_or_len p (x ∷ xs) ≡ 0 = rw t refl in omega arith)
      | inr f ↦ (let next : position_or_len p (x ∷ xs) ≡ suc (position_or_len p xs) = rw f (omega arith) in (f, none_here p xs (omega arith)))
    ]

-- no element passes
none_found : {X : Type 0} → (p : X → Bool) (xs : List X) → position p xs ≡ None → AllByRecursion (λ x. p x ≡ false) xs
none_found p xs e =
    elim (cases_Bool (ltb (position_or_len p xs) (length xs))) [
      | inl t ↦ absurd (let h : Some (position_or_len p xs) ≡ None = sym (cond-true (ltb (position_or_len p xs) (length xs)) (Some (position_or_len p xs)) None t) ∙ e in cc)
      | inr f ↦ none_here p xs (ltb-false (position_or_len p xs) (length xs) f)
    ]

all_along : {X : Type 0} → (P Q : X → Type 0) (xs : List X) → ((x : X) → P x → Q x) → AllByRecursion P xs → AllByRecursion Q xs
all_along P Q [] f all = tt
all_along P Q (x ∷ xs) f all = (f x all.0, all_along P Q xs f all.1)

not_false : (b : Bool) → not b ≡ false → b ≡ true
not_false true e = refl
not_false false e = absurd (let h : true ≡ false = e in cc)

both : (a b : Bool) → (a && b) ≡ true → (a ≡ true) × (b ≡ true)
both true b e = (refl, e)
both false b e = absurd (let h : false ≡ true = e in cc)

map_none : {X Y : Type 0} → (f : X → Y) (o : Option X) → option_map f o ≡ None → o ≡ None
map_none f None e = refl
map_none f (Some x) e = absurd (let h : Some (f x) ≡ None = e in cc)

-- The parts

or_none : (a b : Option SetupFault) → or_else a b ≡ None → (a ≡ None) × (b ≡ None)
or_none None b e = (refl, e)
or_none (Some f) b e = absurd (let h : Some f ≡ None = e in cc)

if_none : (b : Bool) (f : SetupFault) (rest : Option SetupFault) → cond b (Some f) rest ≡ None → (b ≡ false) × (rest ≡ None)
if_none true f rest e = absurd (let h : Some f ≡ None = e in cc)
if_none false f rest e = (refl, e)

pub record NoFault (k : Constants) (s : Setup) : Type 0 where
  pub device : device_fault k s.objects ≡ None
  pub regions : region_fault s.objects s.regions ≡ None
  pub table : given_table_fault s.objects s.regions ≡ None
  pub rings : ring_fault k s.objects [] s.rings ≡ None
  pub requests : request_fault k s.objects s.requests ≡ None
  pub guest : guest_fault s.objects s.guest ≡ None
  pub logs : log_object_fault s.objects ≡ None

pub no_fault : (k : Constants) (s : Setup) → fault_of k s ≡ None → NoFault k s
unfolding fault_of
no_fault k s e =
    let logs = log_object_fault s.objects in
    let end = or_else (guest_fault s.objects s.guest) logs in
    let last = or_else (request_fault k s.objects s.requests) end in
    let behind = or_else (ring_fault k s.objects [] s.rings) last in
    let tables = or_else (given_table_fault s.objects s.regions) behind in
    let a = or_none (device_fault k s.objects) (or_else (region_fault s.objects s.regions) tables) e in
    let b = or_none (region_fault s.objects s.regions) tables a.1 in
    let c = or_none (given_table_fault s.objects s.regions) behind b.1 in
    let d = or_none (ring_fault k s.objects [] s.rings) last c.1 in
    let r = or_none (request_fault k s.objects s.requests) end d.1 in
    let g = or_none (guest_fault s.objects s.guest) logs r.1 in
    record { device = a.0; regions = b.0; table = c.0; rings = d.0; requests = r.0; guest = g.0; logs = g.1 }

-- a device that fails no test, beside these objects
pub record SoundDevice (k : Constants) (objects : List Object) : Type 0 where
  pub queues : k.queues ≤ 64
  pub workers : length k.masks ≤ 64
  pub power : is_power_of_two k.max ≡ true
  pub max : k.max ≤ 32768
  pub exits : AllByRecursion (λ exit. is_event_or_none objects exit ≡ true) k.exits

pub sound_device : (k : Constants) (objects : List Object) → device_fault k objects ≡ None → SoundDevice k objects
unfolding device_fault is_greatest_size exit_fault
sound_device k objects e =
    let queues = if_none (ltb 64 k.queues) setup_fault.Queues _ e in
    let workers = if_none (ltb 64 (length k.masks)) setup_fault.Workers _ queues.1 in
    let size = if_none (not (is_greatest_size k.max)) setup_fault.QueueSize _ workers.1 in
    let greatest = both (is_power_of_two k.max) (leb k.max 32768) (not_false (is_greatest_size k.max) size.0) in
    record {
      queues = ltb-false 64 k.queues queues.0;
      workers = ltb-false 64 (length k.masks) workers.0;
      power = greatest.0;
      max = leb-true k.max 32768 greatest.1;
      exits = all_along (λ exit. not (is_event_or_none objects exit) ≡ false) (λ exit. is_event_or_none objects exit ≡ true) k.exits (λ exit h. not_false (is_event_or_none objects exit) h)
          (none_found (λ exit. not (is_event_or_none objects exit)) k.exits (map_none (λ w. setup_fault.Exit w) (position (λ exit. not (is_event_or_none objects exit)) k.exits) size.1));
    }

-- each region's object is a content
pub sound_regions : (objects : List Object) (regions : List GivenRegion) → region_fault objects regions ≡ None → AllByRecursion (λ r. is_some (content_len objects r.object) ≡ true) regions
unfolding region_fault
sound_regions objects regions e =
    all_along (λ r. not (is_some (content_len objects r.object)) ≡ false) (λ r. is_some (content_len objects r.object) ≡ true) regions (λ r h. not_false (is_some (content_len objects r.object)) h)
    (none_found (λ r. not (is_some (content_len objects r.object))) regions (map_none (λ i. setup_fault.Region i) (position (λ r. not (is_some (content_len objects r.object))) regions) e))

-- each ring passes its tests behind these and those before it
abbrev pub SoundRings : Constants → List Object → List GivenRing → List GivenRing → Type 0
SoundRings k objects earlier [] = Unit {0}
SoundRings k objects earlier (r ∷ rs) = (ring_is_sound k objects earlier r ≡ true) × SoundRings k objects (earlier ++ r ∷ []) rs

pub sound_rings : (k : Constants) (objects : List Object) (earlier rings : List GivenRing) → ring_fault k objects earlier rings ≡ None → SoundRings k objects earlier rings
unfolding ring_fault
sound_rings k objects earlier [] e = tt
sound_rings k objects earlier (r ∷ rs) e =
    elim (cases_Bool (ring_is_sound k objects earlier r)) [
      | inl t ↦ (t, sound_rings k objects (earlier ++ r ∷ []) rs (sym (cond-true (ring_is_sound k objects earlier r) (ring_fault k objects (earlier ++ r ∷ []) rs) (Some (setup_fault.Ring (length earlier))) t) ∙ e))
      | inr f ↦ absurd (let h : Some (setup_fault.Ring (length earlier)) ≡ None = sym (cond-false (ring_is_sound k objects earlier r) (ring_fault k objects (earlier ++ r ∷ []) rs) (Some (setup_fault.Ring (length earlier))) f) ∙ e in cc)
    ]

-- a ring that passes its tests behind these
pub record SoundRing (k : Constants) (objects : List Object) (earlier : List GivenRing) (r : GivenRing) : Type 0 where
  pub queue : r.queue < k.queues
  pub first : is_first_of_queue earlier r.queue ≡ true
  pub power : is_power_of_two r.size ≡ true
  pub size : r.size ≤ k.max
  pub aligned : is_aligned r.info ≡ true
  pub kick : is_event_or_none objects r.kick ≡ true
  pub call : is_event_or_none objects r.call ≡ true
  pub free : is_free_or_none k earlier r.kick ≡ true

pub sound_ring : (k : Constants) (objects : List Object) (earlier : List GivenRing) (r : GivenRing) → ring_is_sound k objects earlier r ≡ true → SoundRing k objects earlier r
unfolding ring_is_sound
sound_ring k objects earlier r e =
    let g = both _ (is_free_or_none k earlier r.kick) e in
    let f = both _ (is_event_or_none objects r.call) g.0 in
    let d = both _ (is_event_or_none objects r.kick) f.0 in
    let c = both _ (is_aligned r.info) d.0 in
    let b = both _ (leb r.size k.max) c.0 in
    let a = both _ (is_power_of_two r.size) b.0 in
    let q = both (ltb r.queue k.queues) (is_first_of_queue earlier r.queue) a.0 in
    record {
      queue = ltb-true r.queue k.queues q.0;
      first = q.1;
      power = a.1;
      size = leb-true r.size k.max b.1;
      aligned = c.1;
      kick = d.1;
      call = f.1;
      free = g.1;
    }

-- the guest can do each of its actions, of which there are no more than a list may have
pub record SoundGuest (objects : List Object) (guest : List Guest) : Type 0 where
  pub count : length guest ≤ 1048576
  pub possible : AllByRecursion (λ a. is_possible objects a ≡ true) guest

take_whole : {X : Type 0} → (n : ℕ) (xs : List X) → length xs ≤ n → take n xs ≡ xs
take_whole n xs h = sym (append-nil (take n xs)) ∙ ap (λ l. take n xs ++ l) (sym (drop_of_length-le xs h)) ∙ take-append-drop n xs

sound_actions : (most : ℕ) (objects : List Object) (guest : List Guest) → length guest ≤ most → first_impossible objects (take most guest) ≡ None → AllByRecursion (λ a. is_possible objects a ≡ true) guest
sound_actions most objects guest h e =
    all_along (λ a. not (is_possible objects a) ≡ false) (λ a. is_possible objects a ≡ true) guest (λ a f. not_false (is_possible objects a) f)
    (none_found (λ a. not (is_possible objects a)) guest (sym (ap (λ l. first_impossible objects l) (take_whole most guest h)) ∙ e))

pub sound_guest : (objects : List Object) (guest : List Guest) → guest_fault objects guest ≡ None → SoundGuest objects guest
unfolding guest_fault
sound_guest objects guest e =
    let parts = or_none (option_map (λ i. setup_fault.Guest i) (first_impossible objects (take 1048576 guest))) (cond (ltb 1048576 (length guest)) (Some (setup_fault.Guest 1048576)) None) e in
    let long = if_none (ltb 1048576 (length guest)) (setup_fault.Guest 1048576) None parts.1 in
    let count : length guest ≤ 1048576 = ltb-false 1048576 (length guest) long.0 in
    record { count = count; possible = sound_actions 1048576 objects guest count (map_none (λ i. setup_fault.Guest i) (first_impossible objects (take 1048576 guest)) parts.0) }

-- what the rings of a new machine need

rings_fit : (k : Constants) (objects : List Object) (earlier rings : List GivenRing) → SoundRings k objects earlier rings → AllByRecursion (λ r. IsFit k.max r) rings
rings_fit k objects earlier [] all = tt
rings_fit k objects earlier (r ∷ rs) all =
    let s = sound_ring k objects earlier r all.0 in
    (record { power = s.power; size = s.size; aligned = s.aligned }, rings_fit k objects (earlier ++ r ∷ []) rs all.1)

pub record ValidRings (k : Constants) (s : Setup) : Type 0 where
  pub power : is_power_of_two k.max ≡ true
  pub max : k.max ≤ 32768
  pub fit : AllByRecursion (λ r. IsFit k.max r) s.rings

pub valid_rings : (k : Constants) (s : Setup) → fault_of k s ≡ None → ValidRings k s
valid_rings k s e =
    let parts = no_fault k s e in
    let device = sound_device k s.objects parts.device in
    record { power = device.power; max = device.max; fit = rings_fit k s.objects [] s.rings (sound_rings k s.objects [] s.rings parts.rings) }
