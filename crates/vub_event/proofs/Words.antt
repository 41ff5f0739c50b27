-- Laws of numbers kept as bit words.
use Rattle.std.proofs.Common.{ℕ, zero, suc, ◌+◌, ◌*◌, ◌/◌, ◌%◌, ◌^◌, ◌<◌, ◌≤◌, ◌≡◌, ◌≢◌, ◌==◌, inl, inr, Bool, true, not, List, [], ◌∷◌, ◌++◌, Some, None, length, get_or, set, refl, sym, ap, subst, ◌∙◌, arith, eqb, length-set, length-append, get_or-set_same, get_or-set_other}
use Rattle.std.specs.Int.{bit_at, w64, trailing_zeros}
use Rattle.std.proofs.lemmas.Bool.{cases_Bool, cases_lt, cases_eq, eqb-true, eqb-false}
use Rattle.std.proofs.lemmas.List.{get_or_past}
use Rattle.std.proofs.lemmas.Nat.Bits.{bit_at-zero, bit_at-trailing_zeros}
use Rattle.vub_event.specs.BitWords.{word_at, bit_in, as_bit, AreWords, PutsBit, MakesRoom, SetsBit, IsLeastIn, IsSummary}

-- a word that is changed in one bit
pub puts_bit : (old : List ℕ) (n : ℕ) (b : Bool) (w : ℕ) → n / 64 < length old → SetsBit (word_at old (n / 64)) (n % 64) b w → PutsBit old n b (set old (n / 64) w)
puts_bit old n b w h goes = record {
  here = ap (λ x. bit_at x (n % 64)) (get_or-set_same old (n / 64) w 0 h) ∙ goes.here;
  others = λ m ne.
      elim (cases_eq (m / 64) (n / 64)) [
        | inl e ↦ (let apart : m % 64 ≢ n % 64 = λ s. ne (omega (arith, s)) in
            subst (λ i. bit_at (get_or (set old (n / 64) w) i 0) (m % 64) ≡ bit_at (get_or old i 0) (m % 64)) (sym e)
            (ap (λ x. bit_at x (m % 64)) (get_or-set_same old (n / 64) w 0 h) ∙ goes.others (m % 64) (omega arith) apart))
        | inr other ↦ ap (λ x. bit_at x (m % 64)) (get_or-set_other old (n / 64) (m / 64) w 0 other)
      ];
  words = λ i other. get_or-set_other old (n / 64) i w 0 other;
  same = length-set old (n / 64) w;
}

-- words that are all below 2 ^ 64, one of them changed
pub words_set : (ws : List ℕ) (i w : ℕ) → AreWords ws → w < 2 ^ 64 → i < length ws → AreWords (set ws i w)
words_set ws i w all small h k =
    elim (cases_eq k i) [
      | inl e ↦ subst (λ j. get_or (set ws i w) j 0 < 2 ^ 64) (sym e) (subst (λ x. x < 2 ^ 64) (sym (get_or-set_same ws i w 0 h)) small)
      | inr other ↦ subst (λ x. x < 2 ^ 64) (sym (get_or-set_other ws i k w 0 other)) (all k)
    ]

pub words_none : AreWords []
words_none i = omega arith

-- a word of 0 more
push_zero : (ws : List ℕ) (i : ℕ) → get_or (ws ++ 0 ∷ []) i 0 ≡ get_or ws i 0
push_zero [] zero = refl
push_zero [] (suc i) = refl
push_zero (w ∷ ws) zero = refl
push_zero (w ∷ ws) (suc i) = push_zero ws i

pub room_first : (ws : List ℕ) (n : ℕ) → MakesRoom ws n ws
room_first ws n = record { words = λ i. refl; grows = omega arith; most = omega arith }

pub room_more : (old ws next : List ℕ) (n : ℕ) → MakesRoom old n ws → length ws ≤ n / 64 → next ≡ ws ++ 0 ∷ [] → MakesRoom old n next
room_more old ws next n room h is =
    let one : length next ≡ length ws + 1 = ap length is ∙ length-append ws (0 ∷ []) in
    record {
      words = λ i. ap (λ l. get_or l i 0) is ∙ push_zero ws i ∙ room.words i;
      grows = omega (arith, room.grows);
      most = omega (arith, room.most);
    }

pub words_room : (old ws : List ℕ) (n : ℕ) → AreWords old → MakesRoom old n ws → AreWords ws
words_room old ws n all room i = subst (λ x. x < 2 ^ 64) (sym (room.words i)) (all i)

-- the summary of no words
pub summary_none : IsSummary [] []
summary_none = record { shows = λ i. bit_at-zero (i % 64); has_room = omega arith; small = omega arith }

pub summary_put : (ws vs ss ts : List ℕ) (n : ℕ) (b some : Bool) → IsSummary ws ss → PutsBit ws n b vs → some ≡ not (word_at vs (n / 64) == 0) → PutsBit ss (n / 64) some ts → IsSummary vs ts
summary_put ws vs ss ts n b some is words e sums = record {
  shows = λ i.
      elim (cases_eq i (n / 64)) [
        | inl same ↦ subst (λ j. bit_in ts j ≡ as_bit (not (word_at vs j == 0))) (sym same) (sums.here ∙ ap as_bit e)
        | inr other ↦ sums.others i other ∙ is.shows i ∙ sym (ap (λ x. as_bit (not (x == 0))) (words.words i other))
      ];
  has_room = omega (arith, is.has_room, words.same, sums.same);
  small = omega (arith, is.small, words.same);
}

-- the summary has room for a word
pub summary_has : (ws ss : List ℕ) (n : ℕ) → IsSummary ws ss → n / 64 < length ws → n / 64 / 64 < length ss
summary_has ws ss n is h = omega (arith, is.has_room)

-- what is not there is not put in
pub puts_nothing : (ws : List ℕ) (n : ℕ) (b : Bool) → length ws ≤ n / 64 → (b ≡ true → n / 64 < length ws) → PutsBit ws n b ws
puts_nothing ws n b past has = record {
  here = ap (λ x. bit_at x (n % 64)) (get_or_past ws (n / 64) 0 past) ∙ bit_at-zero (n % 64)
      ∙ elim (cases_Bool b) [ inl t ↦ absurd (let lt : n / 64 < length ws = has t in omega arith) | inr f ↦ sym (ap as_bit f) ];
  others = λ m ne. refl;
  words = λ i ne. refl;
  same = refl;
}

-- more room in the summary, then more in the words
pub summary_room : (ws ss ts : List ℕ) (i : ℕ) → IsSummary ws ss → MakesRoom ss i ts → IsSummary ws ts
summary_room ws ss ts i is room = record {
  shows = λ k. ap (λ x. bit_at x (k % 64)) (room.words (k / 64)) ∙ is.shows k;
  has_room = omega (arith, is.has_room, room.grows);
  small = is.small;
}

pub words_more : (ws vs ss : List ℕ) (n : ℕ) → IsSummary ws ss → n < 2 ^ 32 → n / 64 / 64 < length ss → MakesRoom ws n vs → IsSummary vs ss
words_more ws vs ss n is fits has room = record {
  shows = λ k. is.shows k ∙ sym (ap (λ x. as_bit (not (x == 0))) (room.words k));
  has_room = omega (arith, is.has_room, room.most);
  small = omega (arith, is.small, room.most);
}

-- a bit of a word that is 0
no_bit : (ws : List ℕ) (n : ℕ) → word_at ws (n / 64) ≡ 0 → bit_in ws n ≡ 0
no_bit ws n e = ap (λ x. bit_at x (n % 64)) e ∙ bit_at-zero (n % 64)

one_zero : (a b : ℕ) → a ≡ 1 → a ≡ b → b ≡ 0 → ⊥
one_zero a b one same none = omega arith

word_none : (ws ss : List ℕ) (i : ℕ) → IsSummary ws ss → bit_in ss i ≡ 0 → word_at ws i ≡ 0
word_none ws ss i is e =
    elim (cases_Bool (eqb (word_at ws i) 0)) [
      | inl t ↦ eqb-true (word_at ws i) 0 t
      | inr f ↦ absurd (one_zero _ _ (ap (λ b. as_bit (not b)) f) (sym (is.shows i)) e)
    ]

word_some : (ws ss : List ℕ) (i : ℕ) → IsSummary ws ss → bit_in ss i ≡ 1 → 0 < word_at ws i
word_some ws ss i is e =
    elim (cases_Bool (eqb (word_at ws i) 0)) [
      | inl t ↦ absurd (one_zero _ _ e (is.shows i) (ap (λ b. as_bit (not b)) t))
      | inr f ↦ (let ne : word_at ws i ≢ 0 = eqb-false (word_at ws i) 0 f in omega arith)
    ]

-- the words of the summary before this one are 0
abbrev pub IsClear : List ℕ → ℕ → Type 0
IsClear ss i = (k : ℕ) → k < i → word_at ss k ≡ 0

pub clear_more : (ss : List ℕ) (i : ℕ) → IsClear ss i → word_at ss i ≡ 0 → IsClear ss (i + 1)
clear_more ss i clear e k h = elim (cases_eq k i) [ inl same ↦ subst (λ j. word_at ss j ≡ 0) (sym same) e | inr other ↦ clear k (omega arith) ]

-- the first word with a number
pub record IsFirstWord (ws ss : List ℕ) (i s w : ℕ) : Type 0 where
  pub some : 0 < word_at ws w
  pub within : w < length ws
  pub before : (v : ℕ) → v < w → word_at ws v ≡ 0

pub first_word : (ws ss : List ℕ) (i s : ℕ) → IsSummary ws ss → IsClear ss i → s ≡ word_at ss i → 0 < s → s < 2 ^ 64 → IsFirstWord ws ss i s (64 * i + trailing_zeros w64 s)
first_word ws ss i s is clear e pos small =
    let low = bit_at-trailing_zeros w64 s pos small in
    let tz : ℕ = trailing_zeros w64 s in
    let below : tz < 64 = low.0 in
    let row : (64 * i + tz) / 64 ≡ i = omega arith in
    let column : (64 * i + tz) % 64 ≡ tz = omega arith in
    let here : bit_in ss (64 * i + tz) ≡ 1 =
    ap (λ k. bit_at (word_at ss k) ((64 * i + tz) % 64)) row ∙ ap (λ k. bit_at (word_at ss i) k) column ∙ ap (λ x. bit_at x tz) (sym e) ∙ low.1 in
    let some : 0 < word_at ws (64 * i + tz) = word_some ws ss (64 * i + tz) is here in
    record {
      some = some;
      within = elim (cases_lt (64 * i + tz) (length ws)) [ inl lt ↦ lt | inr ge ↦ absurd (let none : word_at ws (64 * i + tz) ≡ 0 = get_or_past ws (64 * i + tz) 0 ge in omega arith) ];
      before = λ v lt.
          word_none ws ss v is
          (elim (cases_lt (v / 64) i) [
            | inl earlier ↦ no_bit ss v (clear (v / 64) earlier)
            | inr ge ↦ (let same : v / 64 ≡ i = omega arith in
                let lower : v % 64 < tz = omega arith in
                ap (λ k. bit_at (word_at ss k) (v % 64)) same ∙ ap (λ x. bit_at x (v % 64)) (sym e) ∙ low.2 (v % 64) lower)
          ]);
    }

pub first_bit : (ws ss : List ℕ) (i s w o : ℕ) → IsFirstWord ws ss i s w → o ≡ word_at ws w → o < 2 ^ 64 → IsLeastIn ws (Some (64 * w + trailing_zeros w64 o))
first_bit ws ss i s w o first e small =
    let pos : 0 < o = omega (arith, first.some) in
    let low = bit_at-trailing_zeros w64 o pos small in
    let tz : ℕ = trailing_zeros w64 o in
    let below : tz < 64 = low.0 in
    let row : (64 * w + tz) / 64 ≡ w = omega arith in
    let column : (64 * w + tz) % 64 ≡ tz = omega arith in (
      ap (λ k. bit_at (word_at ws k) ((64 * w + tz) % 64)) row ∙ ap (λ k. bit_at (word_at ws w) k) column ∙ ap (λ x. bit_at x tz) (sym e) ∙ low.1,
      λ m lt.
          elim (cases_lt (m / 64) w) [
            | inl earlier ↦ no_bit ws m (first.before (m / 64) earlier)
            | inr ge ↦ (let same : m / 64 ≡ w = omega arith in
                let lower : m % 64 < tz = omega arith in
                ap (λ k. bit_at (word_at ws k) (m % 64)) same ∙ ap (λ x. bit_at x (m % 64)) (sym e) ∙ low.2 (m % 64) lower)
          ],
    )

pub found_fits : (ws ss : List ℕ) (i s w o : ℕ) → IsFirstWord ws ss i s w → IsSummary ws ss → o ≡ word_at ws w → o < 2 ^ 64 → 64 * w + trailing_zeros w64 o < 2 ^ 32
found_fits ws ss i s w o first is e small =
    let pos : 0 < o = omega (arith, first.some) in
    let below : trailing_zeros w64 o < 64 = (bit_at-trailing_zeros w64 o pos small).0 in
    omega (arith, first.within, is.small)

-- no word of the summary has a number
pub first_nowhere : (ws ss : List ℕ) (rows : ℕ) → IsSummary ws ss → IsClear ss rows → length ws ≤ 64 * rows → IsLeastIn ws None
first_nowhere ws ss rows is clear all n =
    no_bit ws n
    (elim (cases_lt (n / 64) (length ws)) [
      | inl lt ↦ word_none ws ss (n / 64) is (no_bit ss (n / 64) (clear (n / 64 / 64) (omega arith)))
      | inr ge ↦ get_or_past ws (n / 64) 0 ge
    ])
