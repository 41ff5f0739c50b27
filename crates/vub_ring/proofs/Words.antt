-- A pending set as a word and a list: what a number that comes, goes or is taken from the front leaves.
use Rattle.std.proofs.Common.{◌≡◌, ◌≢◌, ◌⊎◌, ℕ, zero, suc, ◌+◌, ◌^◌, ◌<◌, ◌≤◌, ◌==◌, not, Bool, true, false, nat_lt, if◌then◌else◌, List, [], ◌∷◌, ◌++◌, filter, cond, inl, inr, refl, ap, sym, ◌∙◌, subst, arith, length, drop, slice_get, option_to_list, Option, Some, None, Result, Ok, Err, OnOk, OnErr}
use Rattle.std.specs.Int.{bit_at, w64, trailing_zeros}
use Rattle.std.proofs.lemmas.Bool.{cases_lt, cases_eq}
use Rattle.std.proofs.lemmas.Bool.Decides.{nat_tests}
use Rattle.std.proofs.lemmas.List.Elements.{filter-append}
use Rattle.std.proofs.lemmas.Nat.Bits.{bit_at-zero, bit_at-lt, bit_at-trailing_zeros}
use Rattle.vub_event.specs.BitWords.{SetsBit}
use Rattle.vub_model.specs.Shared.{with_number, without_number}
use Rattle.vub_ring.specs.Pending.{numbers_in, numbers_of, AscendsFrom}

-- Lists that ascend

pub ascends-lower : (a b : ℕ) (ns : List ℕ) → a ≤ b → AscendsFrom b ns → AscendsFrom a ns
ascends-lower a b [] le is = is
ascends-lower a b (n ∷ ns) le is = let first : b ≤ n = is.0 in (omega arith, is.1)

-- a number below all others goes to the front
front-goes : (n : ℕ) (ns : List ℕ) → AscendsFrom (suc n) ns → with_number ns n ≡ n ∷ ns
front-goes n [] is = refl
front-goes n (m ∷ ms) is = let first : suc n ≤ m = is.0 in let test : nat_lt n m ≡ true = grind (arith, nat_tests) in ap (λ b. if b then n ∷ m ∷ ms else (if m == n then m ∷ ms else m ∷ with_number ms n)) test

-- a number above this one goes behind it
behind-goes : (m n : ℕ) (ms : List ℕ) → m < n → with_number (m ∷ ms) n ≡ m ∷ with_number ms n
behind-goes m n ms lt = grind (arith, nat_tests)

-- Words

-- two words with the same bits, from this one on
abbrev Same : (v w first count : ℕ) → Type 0
Same v w first count = (i : ℕ) → first ≤ i → i < first + count → bit_at v i ≡ bit_at w i

numbers-same : (v w first count : ℕ) → Same v w first count → numbers_in v first count ≡ numbers_in w first count
numbers-same v w first zero same = refl
numbers-same v w first (suc count) same =
    let here : bit_at v first ≡ bit_at w first = same first (omega arith) (omega arith) in
    let rest : numbers_in v (first + 1) count ≡ numbers_in w (first + 1) count = numbers-same v w (first + 1) count (λ i low high. same i (omega arith) (omega arith)) in
    ap (λ d. cond (d == 1) (first ∷ numbers_in v (first + 1) count) (numbers_in v (first + 1) count)) here ∙ ap (λ ns. cond (bit_at w first == 1) (first ∷ ns) ns) rest

-- the numbers of a word, and others from the end of the word on
pub words-ascend : (w first count end : ℕ) (ns : List ℕ) → first + count ≡ end → AscendsFrom end ns → AscendsFrom first (numbers_in w first count ++ ns)
words-ascend w first zero end ns ends is = ascends-lower first end ns (omega arith) is
words-ascend w first (suc count) end ns ends is =
    let more : AscendsFrom (first + 1) (numbers_in w (first + 1) count ++ ns) = words-ascend w (first + 1) count end ns (omega arith) is in
    elim (bit_at w first == 1) as (λ b. AscendsFrom first (cond b (first ∷ numbers_in w (first + 1) count) (numbers_in w (first + 1) count) ++ ns)) [
      | true ↦ (omega arith, ascends-lower (suc first) (first + 1) _ (omega arith) more)
      | false ↦ ascends-lower first (first + 1) _ (omega arith) more
    ]

-- the first number of a word, where its bit is set, and where it is not
numbers-set : (w first count : ℕ) → bit_at w first ≡ 1 → numbers_in w first (suc count) ≡ first ∷ numbers_in w (first + 1) count
numbers-set w first count is = ap (λ d. cond (d == 1) (first ∷ numbers_in w (first + 1) count) (numbers_in w (first + 1) count)) is

numbers-clear : (w first count : ℕ) → bit_at w first ≡ 0 → numbers_in w first (suc count) ≡ numbers_in w (first + 1) count
numbers-clear w first count is = ap (λ d. cond (d == 1) (first ∷ numbers_in w (first + 1) count) (numbers_in w (first + 1) count)) is

-- a bit is 1 or 0
bit-cases : (w i : ℕ) → (bit_at w i ≡ 1) ⊎ (bit_at w i ≡ 0)
bit-cases w i = elim (cases_eq (bit_at w i) 1) [ inl one ↦ inl one | inr ne ↦ inr (omega (arith, bit_at-lt w i, ne)) ]

-- one bit changes
rest-same : (w v n count : ℕ) (b : Bool) → SetsBit w n b v → n + suc count ≤ 64 → numbers_in v (n + 1) count ≡ numbers_in w (n + 1) count
rest-same w v n count b sets within = numbers-same v w (n + 1) count (λ i above below. sets.others i (omega arith) (λ e. absurd (omega (arith, e))))

-- A number that comes

-- it is the first of the word
word-here : (w v n count end : ℕ) (ns : List ℕ) → SetsBit w n true v → n + suc count ≡ end → end ≤ 64 → AscendsFrom end ns → with_number (numbers_in w n (suc count) ++ ns) n ≡ numbers_in v n (suc count) ++ ns
word-here w v n count end ns sets ends within is =
    let tail : List ℕ = numbers_in w (n + 1) count ++ ns in
    let more : AscendsFrom (suc n) tail = ascends-lower (suc n) (n + 1) tail (omega arith) (words-ascend w (n + 1) count end ns (omega arith) is) in
    let after : numbers_in v n (suc count) ≡ n ∷ numbers_in w (n + 1) count = numbers-set v n count sets.here ∙ ap (λ l. n ∷ l) (rest-same w v n count true sets (omega arith)) in
    let there : with_number (n ∷ tail) n ≡ n ∷ tail = grind (arith, nat_tests) in
    elim (bit-cases w n) [
      | inl set ↦ ap (λ l. with_number (l ++ ns) n) (numbers-set w n count set) ∙ there ∙ ap (λ l. l ++ ns) (sym after)
      | inr clear ↦ ap (λ l. with_number (l ++ ns) n) (numbers-clear w n count clear) ∙ front-goes n tail more ∙ ap (λ l. l ++ ns) (sym after)
    ]

word-goes : (w v n first count end : ℕ) (ns : List ℕ) → SetsBit w n true v → first ≤ n → n < end → first + count ≡ end → end ≤ 64 → AscendsFrom end ns → with_number (numbers_in w first count ++ ns) n ≡ numbers_in v first count ++ ns
word-goes w v n first zero end ns sets low high ends within is = absurd (omega arith)
word-goes w v n first (suc count) end ns sets low high ends within is =
    elim (cases_eq first n) [
      | inl here ↦ subst (λ m. with_number (numbers_in w m (suc count) ++ ns) n ≡ numbers_in v m (suc count) ++ ns) (sym here) (word-here w v n count end ns sets (omega arith) within is)
      | inr ne ↦ (
          let low' : first < n = omega arith in
          let same : bit_at v first ≡ bit_at w first = sets.others first (omega arith) ne in
          let more : with_number (numbers_in w (first + 1) count ++ ns) n ≡ numbers_in v (first + 1) count ++ ns = word-goes w v n (first + 1) count end ns sets (omega arith) high (omega arith) within is in
          elim (bit-cases w first) [
            | inl set ↦ ap (λ l. with_number (l ++ ns) n) (numbers-set w first count set) ∙ behind-goes first n (numbers_in w (first + 1) count ++ ns) low' ∙ ap (λ l. first ∷ l) more ∙ ap (λ l. l ++ ns) (sym (numbers-set v first count (same ∙ set)))
            | inr clear ↦ ap (λ l. with_number (l ++ ns) n) (numbers-clear w first count clear) ∙ more ∙ ap (λ l. l ++ ns) (sym (numbers-clear v first count (same ∙ clear)))
          ])
    ]

-- a number from the end of the word on
list-goes : (w n first count end : ℕ) (ns : List ℕ) → end ≤ n → first + count ≡ end → with_number (numbers_in w first count ++ ns) n ≡ numbers_in w first count ++ with_number ns n
list-goes w n first zero end ns high ends = refl
list-goes w n first (suc count) end ns high ends =
    let more : with_number (numbers_in w (first + 1) count ++ ns) n ≡ numbers_in w (first + 1) count ++ with_number ns n = list-goes w n (first + 1) count end ns high (omega arith) in
    elim (bit-cases w first) [
      | inl set ↦ ap (λ l. with_number (l ++ ns) n) (numbers-set w first count set) ∙ behind-goes first n (numbers_in w (first + 1) count ++ ns) (omega arith) ∙ ap (λ l. first ∷ l) more ∙ ap (λ l. l ++ with_number ns n) (sym (numbers-set w first count set))
      | inr clear ↦ ap (λ l. with_number (l ++ ns) n) (numbers-clear w first count clear) ∙ more ∙ ap (λ l. l ++ with_number ns n) (sym (numbers-clear w first count clear))
    ]

pub ascends-with : (least n : ℕ) (ns : List ℕ) → least ≤ n → AscendsFrom least ns → AscendsFrom least (with_number ns n)
ascends-with least n [] le is = (le, tt)
ascends-with least n (m ∷ ms) le is =
    let first : least ≤ m = is.0 in
    elim (cases_lt n m) [
      | inl lt ↦ subst (AscendsFrom least) (sym (front-goes n (m ∷ ms) (omega arith, is.1))) (le, (omega arith, is.1))
      | inr ge ↦ (elim (cases_eq m n) [
        | inl same ↦ (let stays : with_number (m ∷ ms) n ≡ m ∷ ms = grind (arith, nat_tests) in subst (AscendsFrom least) (sym stays) is)
        | inr ne ↦ subst (AscendsFrom least) (sym (behind-goes m n ms (omega arith))) (first, ascends-with (suc m) n ms (omega arith) is.1)
      ])
    ]

pub number-goes-in : (w v n : ℕ) (ns : List ℕ) → SetsBit w n true v → n < 64 → AscendsFrom 64 ns → with_number (numbers_of w ++ ns) n ≡ numbers_of v ++ ns
unfolding numbers_of
number-goes-in w v n ns sets small is = word-goes w v n 0 64 64 ns sets (omega arith) small refl (omega arith) is

pub number-goes-above : (w n : ℕ) (ns : List ℕ) → 64 ≤ n → with_number (numbers_of w ++ ns) n ≡ numbers_of w ++ with_number ns n
unfolding numbers_of
number-goes-above w n ns high = list-goes w n 0 64 64 ns high refl

-- the list after a call that may be refused
pub ascends-called : {S E : Type 0} (r : Result S E) (n : ℕ) (old new : List ℕ) → OnOk r (new ≡ with_number old n) → OnErr r (new ≡ old) → 64 ≤ n → AscendsFrom 64 old → AscendsFrom 64 new
ascends-called (Ok s) n old new made refused high is = subst (AscendsFrom 64) (sym made) (ascends-with 64 n old high is)
ascends-called (Err e) n old new made refused high is = subst (AscendsFrom 64) (sym refused) is

pub goes-called : {S E : Type 0} (r : Result S E) (w n : ℕ) (old new whole : List ℕ) → OnOk r (new ≡ with_number old n) → 64 ≤ n → numbers_of w ++ old ≡ whole → OnOk r (numbers_of w ++ new ≡ with_number whole n)
goes-called (Ok s) w n old new whole made high is = ap (λ ns. numbers_of w ++ ns) made ∙ sym (number-goes-above w n old high) ∙ ap (λ ns. with_number ns n) is
goes-called (Err e) w n old new whole made high is = made

-- A number that goes

-- it is in no list of greater numbers
list-none : (n : ℕ) (ns : List ℕ) → AscendsFrom (suc n) ns → without_number ns n ≡ ns
list-none n [] is = refl
list-none n (m ∷ ms) is =
    let above : suc n ≤ m = is.0 in
    let more : without_number ms n ≡ ms = list-none n ms (ascends-lower (suc n) (suc m) ms (omega arith) is.1) in
    grind (arith, nat_tests, more)

-- nor among the numbers of a word without its bit
word-none : (w n first count : ℕ) → (n < first + count → first ≤ n → bit_at w n ≡ 0) → without_number (numbers_in w first count) n ≡ numbers_in w first count
word-none w n first zero none = refl
word-none w n first (suc count) none =
    let more : without_number (numbers_in w (first + 1) count) n ≡ numbers_in w (first + 1) count = word-none w n (first + 1) count (λ high low. none (omega arith) (omega arith)) in
    elim (bit-cases w first) [
      | inl set ↦ (let ne : first ≢ n = λ e. absurd (let zero-here : bit_at w n ≡ 0 = none (omega (arith, e)) (omega (arith, e)) in let one-here : bit_at w n ≡ 1 = subst (λ i. bit_at w i ≡ 1) e set in omega arith) in
          let kept : without_number (first ∷ numbers_in w (first + 1) count) n ≡ first ∷ without_number (numbers_in w (first + 1) count) n = grind (arith, nat_tests, ne) in
          ap (λ l. without_number l n) (numbers-set w first count set) ∙ kept ∙ ap (λ l. first ∷ l) more ∙ sym (numbers-set w first count set))
      | inr clear ↦ ap (λ l. without_number l n) (numbers-clear w first count clear) ∙ more ∙ sym (numbers-clear w first count clear)
    ]

-- a bit is cleared
word-leaves : (w v n first count : ℕ) → SetsBit w n false v → first + count ≤ 64 → without_number (numbers_in w first count) n ≡ numbers_in v first count
word-leaves w v n first zero sets within = refl
word-leaves w v n first (suc count) sets within =
    let more : without_number (numbers_in w (first + 1) count) n ≡ numbers_in v (first + 1) count = word-leaves w v n (first + 1) count sets (omega arith) in
    elim (cases_eq first n) [
      | inl here ↦ (
          let none : numbers_in v first (suc count) ≡ numbers_in v (first + 1) count = numbers-clear v first count (ap (bit_at v) here ∙ sets.here) in
          let gone : without_number (first ∷ numbers_in w (first + 1) count) n ≡ without_number (numbers_in w (first + 1) count) n = grind (arith, nat_tests, here) in
          elim (bit-cases w first) [
            | inl set ↦ ap (λ l. without_number l n) (numbers-set w first count set) ∙ gone ∙ more ∙ sym none
            | inr clear ↦ ap (λ l. without_number l n) (numbers-clear w first count clear) ∙ more ∙ sym none
          ])
      | inr ne ↦ (
          let same : bit_at v first ≡ bit_at w first = sets.others first (omega arith) ne in
          let kept : without_number (first ∷ numbers_in w (first + 1) count) n ≡ first ∷ without_number (numbers_in w (first + 1) count) n = grind (arith, nat_tests, ne) in
          elim (bit-cases w first) [
            | inl set ↦ ap (λ l. without_number l n) (numbers-set w first count set) ∙ kept ∙ ap (λ l. first ∷ l) more ∙ sym (numbers-set v first count (same ∙ set))
            | inr clear ↦ ap (λ l. without_number l n) (numbers-clear w first count clear) ∙ more ∙ sym (numbers-clear v first count (same ∙ clear))
          ])
    ]

pub ascends-without : (least : ℕ) (p : ℕ → Bool) (ns : List ℕ) → AscendsFrom least ns → AscendsFrom least (filter p ns)
ascends-without least p [] is = tt
ascends-without least p (m ∷ ms) is =
    let first : least ≤ m = is.0 in
    let more : AscendsFrom (suc m) (filter p ms) = ascends-without (suc m) p ms is.1 in
    elim (p m) as (λ b. AscendsFrom least (cond b (m ∷ filter p ms) (filter p ms))) [
      | true ↦ (first, more)
      | false ↦ ascends-lower least (suc m) (filter p ms) (omega arith) more
    ]

pub number-leaves : (w v n : ℕ) (ns : List ℕ) → SetsBit w n false v → n < 64 → AscendsFrom 64 ns → without_number (numbers_of w ++ ns) n ≡ numbers_of v ++ ns
unfolding numbers_of
number-leaves w v n ns sets small is =
    filter-append (λ m. not (m == n)) (numbers_in w 0 64) ns ∙ ap (λ l. l ++ without_number ns n) (word-leaves w v n 0 64 sets (omega arith))
    ∙ ap (λ l. numbers_in v 0 64 ++ l) (list-none n ns (ascends-lower (suc n) 64 ns (omega arith) is))

pub number-leaves-above : (w n : ℕ) (ns : List ℕ) → 64 ≤ n → without_number (numbers_of w ++ ns) n ≡ numbers_of w ++ without_number ns n
unfolding numbers_of
number-leaves-above w n ns high =
    filter-append (λ m. not (m == n)) (numbers_in w 0 64) ns ∙ ap (λ l. l ++ without_number ns n) (word-none w n 0 64 (λ small low. absurd (omega arith)))

-- The first number

word-first : (w v n first count : ℕ) → SetsBit w n false v → bit_at w n ≡ 1 → ((i : ℕ) → i < n → bit_at w i ≡ 0) → first ≤ n → n < first + count → first + count ≤ 64 → numbers_in w first count ≡ n ∷ numbers_in v first count
word-first w v n first zero sets set none low high within = absurd (omega arith)
word-first w v n first (suc count) sets set none low high within =
    elim (cases_eq first n) [
      | inl here ↦ subst (λ m. numbers_in w m (suc count) ≡ n ∷ numbers_in v m (suc count)) (sym here)
          (numbers-set w n count set ∙ ap (λ l. n ∷ l) (sym (rest-same w v n count false sets (omega arith)) ∙ sym (numbers-clear v n count sets.here)))
      | inr ne ↦ (
          let lt : first < n = omega arith in
          let clear : bit_at w first ≡ 0 = none first lt in
          let same : bit_at v first ≡ bit_at w first = sets.others first (omega arith) ne in
          numbers-clear w first count clear ∙ word-first w v n (first + 1) count sets set none (omega arith) (omega arith) (omega arith) ∙ ap (λ l. n ∷ l) (sym (numbers-clear v first count (same ∙ clear))))
    ]

pub first-of : (w v : ℕ) (ns : List ℕ) → 0 < w → w < 2 ^ 64 → SetsBit w (trailing_zeros w64 w) false v → numbers_of w ++ ns ≡ trailing_zeros w64 w ∷ (numbers_of v ++ ns)
unfolding numbers_of
first-of w v ns some fits sets =
    let low = bit_at-trailing_zeros w64 w some fits in
    let below : trailing_zeros w64 w < 64 = low.0 in
    ap (λ l. l ++ ns) (word-first w v (trailing_zeros w64 w) 0 64 sets low.1 low.2 (omega arith) below (omega arith))

zero-numbers : (first count : ℕ) → numbers_in 0 first count ≡ []
zero-numbers first zero = refl
zero-numbers first (suc count) = numbers-clear 0 first count (bit_at-zero first) ∙ zero-numbers (first + 1) count

pub numbers-none : numbers_of 0 ≡ []
unfolding numbers_of
numbers-none = zero-numbers 0 64

pub none-of : (w : ℕ) (ns : List ℕ) → w ≡ 0 → numbers_of w ++ ns ≡ ns
none-of w ns is = ap (λ v. numbers_of v ++ ns) is ∙ ap (λ l. l ++ ns) numbers-none

pub set-ascends : (w : ℕ) (ns : List ℕ) → AscendsFrom 64 ns → AscendsFrom 0 (numbers_of w ++ ns)
unfolding numbers_of
set-ascends w ns is = words-ascend w 0 64 64 ns refl is

-- What a list is after its first number was taken

pub ascends-drop : (least : ℕ) (ns : List ℕ) → AscendsFrom least ns → AscendsFrom least (drop 1 ns)
ascends-drop least [] is = is
ascends-drop least (n ∷ ns) is = let first : least ≤ n = is.0 in ascends-lower least (suc n) ns (omega arith) is.1

stays-none : (ns : List ℕ) → ns ≡ drop 1 ns → ns ≡ []
stays-none [] is = refl
stays-none (n ∷ ns) is = absurd (let longer : suc (length ns) ≡ length ns = ap length is in omega arith)

pub popped : (o : Option ℕ) (old new : List ℕ) → old ≡ option_to_list o ++ new → new ≡ drop 1 old → o ≡ slice_get old 0
popped None old new was is = ap (λ ns. slice_get ns 0) (sym (stays-none old (was ∙ is)))
popped (Some n) old new was is = ap (λ ns. slice_get ns 0) (sym was)
