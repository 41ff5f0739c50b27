-- The bits of a mask.
use Rattle.std.proofs.Common.{◌≡◌, ℕ, zero, suc, ◌+◌, ◌/◌, ◌^◌, ◌<◌, ◌≤◌, Bool, true, false, cond, List, [], ◌∷◌, ◌++◌, length, filter, bit_and, sym, ap, ◌∙◌, arith, length-append}
use Rattle.std.specs.List.{range_with_len}
use Rattle.std.proofs.lemmas.List.Elements.{filter-append}
use Rattle.std.specs.Int.{bit_at}
use Rattle.std.proofs.lemmas.Bool.Decides.{nat_tests}
use Rattle.std.proofs.lemmas.Nat.Bits.{shr_and_one, bit_at_above}
use Rattle.vub_model.specs.Wiring.{has_bit, queues_in, number_in}

pub bit_there : (mask queue : ℕ) → bit_and (mask / 2 ^ queue) 1 ≡ 1 → has_bit mask queue ≡ true
bit_there mask queue set =
    let bit : bit_at mask queue ≡ 1 = sym (shr_and_one mask queue) ∙ set in
    grind (arith, nat_tests)

pub bit_missing : (mask queue : ℕ) → (bit_and (mask / 2 ^ queue) 1 ≡ 1 → ⊥) → has_bit mask queue ≡ false
bit_missing mask queue unset =
    let bit : bit_at mask queue ≡ 1 → ⊥ = λ e. unset (shr_and_one mask queue ∙ e) in
    grind (arith, nat_tests)

-- a mask of 64 bits has none from 64 on
pub bit_beyond : (mask queue : ℕ) → mask < 2 ^ 64 → 64 ≤ queue → has_bit mask queue ≡ false
bit_beyond mask queue fits past =
    let bit : bit_at mask queue ≡ 0 = bit_at_above mask 64 queue fits past in
    grind (arith, nat_tests)

range_more : (n a : ℕ) → range_with_len a (suc n) ≡ range_with_len a n ++ (a + n) ∷ []
range_more zero a = (let same : a ≡ a + 0 = omega arith in ap (λ (x : ℕ). x ∷ []) same)
range_more (suc n) a =
    let same : (a + 1) + n ≡ a + suc n = omega arith in
    ap (λ (l : List ℕ). a ∷ l) (range_more n (a + 1) ∙ ap (λ (x : ℕ). range_with_len (a + 1) n ++ x ∷ []) same)

queues_more : (mask n : ℕ) → queues_in (suc n) mask ≡ queues_in n mask ++ cond (has_bit mask n) (n ∷ []) []
queues_more mask n =
    let same : 0 + n ≡ n = omega arith in
    ap (filter (λ (q : ℕ). has_bit mask q)) (range_more n 0)
    ∙ filter-append (λ (q : ℕ). has_bit mask q) (range_with_len 0 n) ((0 + n) ∷ [])
    ∙ ap (λ (x : ℕ). queues_in n mask ++ cond (has_bit mask x) (x ∷ []) []) same

number_more : (mask n : ℕ) (b : Bool) → has_bit mask n ≡ b → number_in mask (n + 1) ≡ number_in mask n + length (cond b (n ∷ []) [])
number_more mask n b is =
    let next : n + 1 ≡ suc n = omega arith in
    ap (λ (k : ℕ). number_in mask k) next
    ∙ ap length (queues_more mask n)
    ∙ length-append (queues_in n mask) (cond (has_bit mask n) (n ∷ []) [])
    ∙ ap (λ (c : Bool). number_in mask n + length (cond c (n ∷ []) [])) is

-- one more queue
pub number_there : (mask n : ℕ) → has_bit mask n ≡ true → number_in mask (n + 1) ≡ number_in mask n + 1
number_there mask n is = number_more mask n true is

pub number_missing : (mask n : ℕ) → has_bit mask n ≡ false → number_in mask (n + 1) ≡ number_in mask n
number_missing mask n is = (let e = number_more mask n false is in omega (arith, e))
