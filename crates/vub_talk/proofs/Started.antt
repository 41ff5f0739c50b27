-- A conversation before its first batch.
use Rattle.std.proofs.Common.{◌≡◌, ℕ, zero, suc, ◌+◌, ◌-◌, ◌*◌, ◌<◌, ◌≤◌, ◌⊎◌, inl, inr, true, false, List, [], ◌∷◌, ◌++◌, length, map, take, drop, get_or, Option, Some, None, refl, sym, ap, ap₂, ◌∙◌, arith, replicate, min}
use Rattle.std.specs.List.{range_with_len}
use Rattle.std.specs.Int.{w16, to_le_bytes}
use Rattle.std.proofs.lemmas.Bool.{cases_Bool}
use Rattle.std.proofs.lemmas.List.{length-replicate}
use Rattle.vub_mem.specs.Place.{byte_at, byte_in, bytes_at, holds, region_of}
use Rattle.vub_mem.specs.declared.region.Region.{Region}
use Rattle.vub_driver.specs.Calls.{index_of, new_state}
use Rattle.vub_driver.specs.Layouts.{new_fault}
use Rattle.vub_driver.specs.Machine.{World as Dialog}
use Rattle.vub_driver.specs.Places.{half_of, avail_index_at, used_index_at}
use Rattle.vub_driver.specs.declared.layout.Layout.{Layout}
use Rattle.vub_driver.proofs.Fitting.{apart_taken}
use Rattle.vub_driver.proofs.Kept.{Keeps}
use Rattle.vub_driver.proofs.Writes.{Lies}
use Rattle.vub_model.specs.Service.{Meaning}
use Rattle.vub_talk.specs.declared.ask.Ask.{Ask}
use Rattle.vub_talk.specs.Asking.{blank, region, zeros}
use Rattle.vub_talk.specs.Faults.{lies_within}
use Rattle.vub_talk.specs.Replies.{asked_by}
use Rattle.vub_talk.specs.Talked.{lengths_of}
use Rattle.vub_talk.specs.Talks.{Talks}
use Rattle.vub_talk.proofs.Asked.{range-more}
use Rattle.vub_talk.proofs.Batching.{length-zeros}
use Rattle.vub_talk.proofs.Valid.{Within, within}

get_or-zeros : (n i : ℕ) → ◌≡◌ {A = ℕ} (get_or (replicate n 0) i 0) 0
get_or-zeros zero i = refl
get_or-zeros (suc n) zero = refl
get_or-zeros (suc n) (suc i) = get_or-zeros n i

zeros_read : (n i : ℕ) → get_or (zeros n) i 0 ≡ 0
unfolding zeros
zeros_read n i = get_or-zeros n i

zero_in : (a : ℕ) (r : Option Region) → (r ≡ None) ⊎ (r ≡ Some region) → byte_in blank.contents a r ≡ 0
zero_in a r (inl none) = ap (byte_in blank.contents a) none
zero_in a r (inr some) = ap (byte_in blank.contents a) some ∙ zeros_read 1048576 (region.offset + (a - region.start))

in_region : (a : ℕ) → (region_of (region ∷ []) a ≡ None) ⊎ (region_of (region ∷ []) a ≡ Some region)
in_region a = elim (cases_Bool (holds region a)) [ inl t ↦ inr (rw t refl) | inr f ↦ inl (rw f refl) ]

zero_byte : (a : ℕ) → byte_at blank a ≡ 0
unfolding byte_at
zero_byte a = zero_in a (region_of (region ∷ []) a) (in_region a)

zero_word : (a : ℕ) → bytes_at blank a 2 ≡ to_le_bytes w16 (index_of 0)
unfolding bytes_at
zero_word a = ap₂ (λ x y. x ∷ y ∷ []) (zero_byte a) (zero_byte (a + 1))

lies_in : (l : Layout) → lies_within l ≡ true → Lies region l
lies_in l h = (let w : Within l = within l h in record {
  desc = (w.desc.0, omega (arith, w.desc.1));
  avail = (w.avail.0, omega (arith, w.avail.1));
  used = (w.used.0, omega (arith, w.used.1));
  buffers = (w.buffers.0, omega (arith, w.buffers.1));
})

-- the dialog of which nothing has happened
abbrev first : Layout → Dialog
first l = record {
  driver = new_state l false;
  guest = blank;
  ring = record { max = l.size; size = l.size; ready = true; event_idx = false; addresses = Some (record { desc = l.desc; avail = l.avail; used = l.used }); next_avail = 0; next_used = 0; told = 0 };
  asked = [];
  taken = [];
  held = None;
  replies = [];
  answers = [];
  waits = true;
}

first_keeps : (l : Layout) → 0 < l.slot → new_fault l ≡ None → lies_within l ≡ true → Keeps region (first l)
first_keeps l some taken lies = record {
  apart = apart_taken l some taken;
  lies = lies_in l lies;
  event_idx = refl;
  tested = refl;
  long = length-replicate (half_of l) 0;
  rooms = λ n from to. absurd (omega arith);
  asked = refl;
  small = λ n to. absurd (omega arith);
  count = refl;
  first = refl;
  put = omega arith;
  held = refl;
  taken = refl;
  behind = omega arith;
  near = omega arith;
  size = refl;
  addresses = refl;
  next_avail = refl;
  next_used = refl;
  reads = record {
    flat = record { one = refl; backed = omega (arith, length-zeros 1048576) };
    index = zero_word (avail_index_at l);
    requests = λ n from to. absurd (omega arith);
    chains = λ n from to. absurd (omega arith);
    slots = λ n from to. absurd (omega arith);
    used = zero_word (used_index_at l);
    elements = λ n from to. absurd (omega arith);
    replies = λ n from to. absurd (omega arith);
  };
  short = λ n from to. absurd (omega arith);
  holding = tt;
  event = λ waits. inl refl;
}

pub talks_none : {V : Type 0} (m : Meaning V) (v : V) (l : Layout) → 0 < l.slot → new_fault l ≡ None → lies_within l ≡ true → Talks m v [] (new_state l false) blank [] v
talks_none m v l some taken lies = record {
  dialog = first l;
  keeps = first_keeps l some taken lies;
  driver = refl;
  memory = refl;
  off = refl;
  held = refl;
  all = refl;
  taken = refl;
  put = refl;
  collected = refl;
  whole = refl;
  value = refl;
  submits = refl;
  collects = refl;
  long = length-zeros 1048576;
}

-- asks more of a list
pub asked_more : (asks : List Ask) (i k : ℕ) → map (λ a. asked_by a) (take i asks) ++ map (λ a. asked_by a) (take k (drop i asks)) ≡ map (λ a. asked_by a) (take (i + k) asks)
asked_more asks zero k = (let same : k ≡ zero + k = omega arith in ap (λ n. map (λ a. asked_by a) (take n asks)) same)
asked_more [] (suc i) k = (let up : suc i + k ≡ suc (i + k) = omega arith in none k ∙ sym (ap (λ n. map (λ (a : Ask). asked_by a) (take n [])) up)) where
  none : (k : ℕ) → map (λ a. asked_by a) (take k []) ≡ []
  none zero = refl
  none (suc k) = refl
asked_more (a ∷ asks) (suc i) k =
    let up : suc i + k ≡ suc (i + k) = omega arith in
    ap (λ xs. asked_by a ∷ xs) (asked_more asks i k) ∙ sym (ap (λ n. map (λ x. asked_by x) (take n (a ∷ asks))) up)

-- lengths of batches

pub least : (k h r : ℕ) → k ≤ h → k ≤ r → (k ≡ h) ⊎ (k ≡ r) → k ≡ min h r
least k h r most within cases = grind arith

map-more : (f : ℕ → ℕ) (xs : List ℕ) (x : ℕ) → map f (xs ++ x ∷ []) ≡ map f xs ++ f x ∷ []
map-more f [] x = refl
map-more f (y ∷ xs) x = ap (λ ys. f y ∷ ys) (map-more f xs x)

pub lengths_more : (l : Layout) (asks : List Ask) (n : ℕ) → lengths_of l asks (n + 1) ≡ lengths_of l asks n ++ min (half_of l) (length asks - n * half_of l) ∷ []
lengths_more l asks n =
    let f : ℕ → ℕ = λ batch. min (half_of l) (length asks - batch * half_of l) in
    let up : zero + n ≡ n = omega arith in
    ap (map f) (range-more 0 n 1 ∙ ap (λ i. range_with_len 0 n ++ i ∷ []) up) ∙ map-more f (range_with_len 0 n) n
