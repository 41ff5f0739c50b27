-- A record is read from its bytes as it was written.
use Rattle.std.proofs.Common.{◌≡◌, ℕ, ◌+◌, ◌*◌, ◌<◌, ◌≤◌, ◌^◌, inl, inr, Bool, true, false, cond, List, [], ◌∷◌, ◌++◌, refl, sym, ap, ap₂, subst, ◌∙◌, arith, leb, length, drop}
use Rattle.std.specs.List.{flat_map, AllByRecursion as Each}
use Rattle.std.specs.Int.{w64, to_le_bytes, from_le_bytes}
use Rattle.std.proofs.lemmas.Bool.{cases_Bool, cond-true, cond-false, and_from}
use Rattle.std.proofs.lemmas.Nat.{from_le_bytes-to_le_bytes_2, from_le_bytes-to_le_bytes_8}
use Rattle.vub_inflight.specs.Bytes.{slot_bytes, record_of, word_in, slot_in, slots_in, flags_fit}
use Rattle.vub_inflight.specs.Order.{put_in}
use Rattle.vub_inflight.specs.State.{State}
use Rattle.vub_inflight.specs.declared.slot.Slot.{Slot}
use Rattle.vub_inflight.proofs.MarkLaws.{marks_from, each_unput, marks_some, marks_none}

-- the counter that is written of a slot
abbrev pub written : Slot → ℕ
written s = cond s.in_flight s.counter 0

-- the slots as they are written
abbrev pub clear_in : List Slot → List Slot
clear_in [] = []
clear_in (s ∷ ss) = record { in_flight = s.in_flight; counter = cond s.in_flight s.counter 0 } ∷ clear_in ss

pub Fits : List Slot → Type 0
Fits ss = Each (λ s. written s < 2 ^ 64) ss

flag_cases : (b : Bool) (n : ℕ) (rest : List ℕ) → from_le_bytes w64 (to_le_bytes w64 (cond b n 0)) ≡ cond b n 0 → slot_in (slot_bytes (record { in_flight = b; counter = n }) ++ rest) ≡ record { in_flight = b; counter = cond b n 0 }
flag_cases true n rest h = ap (λ c. record { in_flight = true; counter = c }) h
flag_cases false n rest h = refl

slot_round : (s : Slot) (rest : List ℕ) → written s < 2 ^ 64 → slot_in (slot_bytes s ++ rest) ≡ record { in_flight = s.in_flight; counter = written s }
slot_round s rest h =
    flag_cases s.in_flight s.counter rest (from_le_bytes-to_le_bytes_8 (written s) h)

pub slots_round : (ss : List Slot) → Fits ss → slots_in (length ss) (flat_map slot_bytes ss) ≡ clear_in ss
unfolding Fits
slots_round [] h = refl
slots_round (s ∷ ss) h = ap₂ (λ x xs. x ∷ xs) (slot_round s (flat_map slot_bytes ss) h.0) (slots_round ss h.1)

flag_round : (b : Bool) → leb (cond b 1 0) 1 ≡ true
flag_round true = refl
flag_round false = refl

pub flags_round : (ss : List Slot) → flags_fit (length ss) (flat_map slot_bytes ss) ≡ true
flags_round [] = refl
flags_round (s ∷ ss) = and_from (leb (cond s.in_flight 1 0) 1) (flags_fit (length ss) (flat_map slot_bytes ss)) (flag_round s.in_flight) (flags_round ss)

pub length-slots_bytes : (ss : List Slot) → length (flat_map slot_bytes ss) ≡ 16 * length ss
length-slots_bytes [] = refl
length-slots_bytes (s ∷ ss) = (let here : length (slot_bytes s ++ flat_map slot_bytes ss) ≡ length (flat_map slot_bytes ss) + 16 = omega arith in omega (arith, here, length-slots_bytes ss))

pub length-record_of : (s : State) → length (record_of s) ≡ 16 + 16 * length s.slots
unfolding record_of
length-record_of s = omega (arith, length-slots_bytes s.slots)

pub rest-record_of : (s : State) → drop 16 (record_of s) ≡ flat_map slot_bytes s.slots
unfolding record_of
rest-record_of s = refl

pub version-record_of : (s : State) → word_in (record_of s) 8 ≡ 1
unfolding record_of
version-record_of s = refl

pub size-record_of : (s : State) → s.ring.size < 2 ^ 16 → word_in (record_of s) 10 ≡ s.ring.size
unfolding record_of
size-record_of s h = from_le_bytes-to_le_bytes_2 s.ring.size h

pub last-record_of : (s : State) → s.last < 2 ^ 16 → word_in (record_of s) 12 ≡ s.last
unfolding record_of
last-record_of s h = from_le_bytes-to_le_bytes_2 s.last h

pub used-record_of : (s : State) → s.used < 2 ^ 16 → word_in (record_of s) 14 ≡ s.used
unfolding record_of
used-record_of s h = from_le_bytes-to_le_bytes_2 s.used h

-- the marks' counters are the slots'
pub fits_from : (i n : ℕ) (ss : List Slot) → n ≤ 2 ^ 64 → Each (λ m. m.counter < n) (marks_from i ss) → Fits ss
unfolding Fits
fits_from i n [] le h = tt
fits_from i n (s ∷ ss) le h =
    elim (cases_Bool s.in_flight) [
      | inl t ↦ (let parts = each_unput (λ m. m.counter < n) (record { counter = s.counter; head = i }) (marks_from (i + 1) ss) (subst (λ l. Each (λ m. m.counter < n) l) (marks_some i s ss t) h) in
          ((let is : written s ≡ s.counter = cond-true s.in_flight s.counter 0 t in let below : s.counter < n = parts.0 in omega arith), fits_from (i + 1) n ss le parts.1))
      | inr f ↦ ((let is : written s ≡ 0 = cond-false s.in_flight s.counter 0 f in omega arith), fits_from (i + 1) n ss le (subst (λ l. Each (λ m. m.counter < n) l) (marks_none i s ss f) h))
    ]

pub marks-clear_in : (i : ℕ) (ss : List Slot) → marks_from i (clear_in ss) ≡ marks_from i ss
marks-clear_in i [] = refl
marks-clear_in i (s ∷ ss) =
    let same : Slot = record { in_flight = s.in_flight; counter = written s } in
    elim (cases_Bool s.in_flight) [
      | inl t ↦ marks_some i same (clear_in ss) t ∙ ap₂ (λ c l. put_in (record { counter = c; head = i }) l) (cond-true s.in_flight s.counter 0 t) (marks-clear_in (i + 1) ss) ∙ sym (marks_some i s ss t)
      | inr f ↦ marks_none i same (clear_in ss) f ∙ marks-clear_in (i + 1) ss ∙ sym (marks_none i s ss f)
    ]
