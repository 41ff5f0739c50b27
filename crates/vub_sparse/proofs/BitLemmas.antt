-- Bits in words of 64.
use Rattle.std.proofs.Common.{◌≡◌, ◌≢◌, ℕ, ◌+◌, ◌-◌, ◌*◌, ◌/◌, ◌%◌, ◌^◌, ◌<◌, ◌≤◌, Bool, true, false, List, length, set, get_or, nat_eq, refl, sym, ap, ◌∙◌, arith, inl, inr, length-set, get_or-set_other, bit_or, bit_and, w64}
use Rattle.std.specs.Int.{bit_at, bit_not}
use Rattle.std.proofs.lemmas.Nat.Bits.{bit_at_set_same, bit_at_set_other, bit_at_clear_same, bit_at_clear_other, bit_at_ones, bit_at-zero}
use Rattle.std.proofs.lemmas.Bool.{cases_lt, cases_eq}
use Rattle.std.proofs.lemmas.Grind.{get_or-set_at}
use Rattle.vub_sparse.specs.Holes.{hole_bit, Marked}

-- the bits of the word that a cell's bit stands in
bit_of_set : (words : List ℕ) (word v k : ℕ) → word < length words → k / 64 ≡ word → hole_bit (set words word v) k ≡ nat_eq (bit_at v (k % 64)) 1
bit_of_set words word v k within here = ap (λ w. nat_eq (bit_at w (k % 64)) 1) (get_or-set_at words word (k / 64) v 0 here within)

-- the bits of other words
bit_elsewhere : (words : List ℕ) (word v k : ℕ) → k / 64 ≢ word → hole_bit (set words word v) k ≡ hole_bit words k
bit_elsewhere words word v k other = ap (λ w. nat_eq (bit_at w (k % 64)) 1) (get_or-set_other words word (k / 64) v 0 other)

same_bit_elsewhere : (words : List ℕ) (place v k : ℕ) → place < 64 * length words →
    ((i : ℕ) → i < 64 → i ≢ place % 64 → bit_at v i ≡ bit_at (get_or words (place / 64) 0) i) →
    k ≢ place → hole_bit (set words (place / 64) v) k ≡ hole_bit words k
same_bit_elsewhere words place v k within others differs =
    elim (cases_eq (k / 64) (place / 64)) [
      | inl here ↦
          bit_of_set words (place / 64) v k (omega arith) here
          ∙ ap (λ b. nat_eq b 1) (others (k % 64) (omega arith) (λ same. differs (omega arith)))
          ∙ ap (λ w. nat_eq (bit_at (get_or words w 0) (k % 64)) 1) (sym here)
      | inr other ↦ bit_elsewhere words (place / 64) v k other
    ]

-- one bit was set to this
pub marked_one : (words : List ℕ) (place v : ℕ) (hole : Bool) → place < 64 * length words →
    nat_eq (bit_at v (place % 64)) 1 ≡ hole →
    ((i : ℕ) → i < 64 → i ≢ place % 64 → bit_at v i ≡ bit_at (get_or words (place / 64) 0) i) →
    Marked words (set words (place / 64) v) place (place + 1) hole
marked_one words place v hole within is others = record {
  long = length-set words (place / 64) v;
  inside = λ k from to.
      let here : k ≡ place = omega arith in
      rw here (bit_of_set words (place / 64) v place (omega arith) refl ∙ is);
  before = λ k h. same_bit_elsewhere words place v k within others (λ same. omega arith);
  after = λ k h. same_bit_elsewhere words place v k within others (λ same. omega arith);
}

pub marked_hole : (words : List ℕ) (place : ℕ) → place < 64 * length words →
    Marked words (set words (place / 64) (bit_or (get_or words (place / 64) 0) (1 * 2 ^ (place % 64) % 2 ^ 64))) place (place + 1) true
marked_hole words place within =
    let low : place % 64 < 64 = omega arith in
    marked_one words place _ true within
    (ap (λ b. nat_eq b 1) (bit_at_set_same w64 (get_or words (place / 64) 0) (place % 64) low))
    (λ i h other. bit_at_set_other w64 (get_or words (place / 64) 0) (place % 64) low i other)

pub marked_byte : (words : List ℕ) (place : ℕ) → place < 64 * length words →
    Marked words (set words (place / 64) (bit_and (get_or words (place / 64) 0) (bit_not w64 (1 * 2 ^ (place % 64) % 2 ^ 64)))) place (place + 1) false
marked_byte words place within =
    let low : place % 64 < 64 = omega arith in
    marked_one words place _ false within
    (ap (λ b. nat_eq b 1) (bit_at_clear_same w64 (get_or words (place / 64) 0) (place % 64) low))
    (λ i h other. bit_at_clear_other w64 (get_or words (place / 64) 0) (place % 64) low i h other)

-- one more whole word was set
pub marked_word : (old now : List ℕ) (from index v : ℕ) (hole : Bool) → index < length now → from ≤ index →
    ((i : ℕ) → i < 64 → nat_eq (bit_at v i) 1 ≡ hole) →
    Marked old now (64 * from) (64 * index) hole → Marked old (set now index v) (64 * from) (64 * (index + 1)) hole
marked_word old now from index v hole within order word so_far = record {
  long = length-set now index v ∙ so_far.long;
  inside = λ k low high.
      elim (cases_eq (k / 64) index) [
        | inl here ↦ bit_of_set now index v k within here ∙ word (k % 64) (omega arith)
        | inr other ↦ bit_elsewhere now index v k other ∙ so_far.inside k low (omega arith)
      ];
  before = λ k h. bit_elsewhere now index v k (λ same. omega arith) ∙ so_far.before k h;
  after = λ k h. bit_elsewhere now index v k (λ same. omega arith) ∙ so_far.after k (omega arith);
}

-- the words of holes alone and of bytes alone
pub all_holes : (i : ℕ) → i < 64 → nat_eq (bit_at (2 ^ 64 - 1) i) 1 ≡ true
all_holes i h = ap (λ b. nat_eq b 1) (bit_at_ones 64 i h)

pub all_bytes : (i : ℕ) → i < 64 → nat_eq (bit_at 0 i) 1 ≡ false
all_bytes i h = ap (λ b. nat_eq b 1) (bit_at-zero i)

-- two ranges, one after the other
pub marked_then : (a b c : List ℕ) (from middle to : ℕ) (hole : Bool) → from ≤ middle → middle ≤ to → Marked a b from middle hole → Marked b c middle to hole → Marked a c from to hole
marked_then a b c from middle to hole low high first second = record {
  long = second.long ∙ first.long;
  inside = λ k above below.
      elim (cases_lt k middle) [
        | inl early ↦ second.before k early ∙ first.inside k above early
        | inr late ↦ second.inside k late below
      ];
  before = λ k h. second.before k (omega arith) ∙ first.before k h;
  after = λ k h. second.after k h ∙ first.after k (omega arith);
}
