-- The queues of a mask, one more queue at a time.
use Rattle.std.proofs.Common.{◌≡◌, ℕ, zero, suc, ◌+◌, ◌/◌, ◌^◌, ◌<◌, ◌-◌, Bool, true, false, nat_lt, List, [], ◌∷◌, ◌++◌, filter, min, bit_and, cond, refl, ap, sym, ◌∙◌, arith, append-nil}
use Rattle.std.specs.Int.{bit_at}
use Rattle.std.specs.List.{range_with_len}
use Rattle.std.proofs.lemmas.Bool.Decides.{nat_tests}
use Rattle.std.proofs.lemmas.List.Elements.{filter-append}
use Rattle.std.proofs.lemmas.Nat.Bits.{shr_and_one, bit_at_above}
use Rattle.vub_model.specs.Wiring.{has_bit, queues_in}

range-more : (n a : ℕ) → range_with_len a (suc n) ≡ range_with_len a n ++ (a + n) ∷ []
range-more zero a = let same : a ≡ a + 0 = omega arith in ap (λ (x : ℕ). x ∷ []) same
range-more (suc n) a =
    let same : (a + 1) + n ≡ a + suc n = omega arith in
    ap (λ (l : List ℕ). a ∷ l) (range-more n (a + 1) ∙ ap (λ (x : ℕ). range_with_len (a + 1) n ++ x ∷ []) same)

queues-more : (n mask : ℕ) → queues_in (suc n) mask ≡ queues_in n mask ++ cond (has_bit mask n) (n ∷ []) []
queues-more n mask =
    let same : 0 + n ≡ n = omega arith in
    ap (filter (λ (q : ℕ). has_bit mask q)) (range-more n 0) ∙ filter-append (λ (q : ℕ). has_bit mask q) (range_with_len 0 n) ((0 + n) ∷ []) ∙ ap (λ (x : ℕ). queues_in n mask ++ cond (has_bit mask x) (x ∷ []) []) same

one-more : (n mask : ℕ) (b : Bool) → has_bit mask n ≡ b → queues_in (n + 1) mask ≡ queues_in n mask ++ cond b (n ∷ []) []
one-more n mask b is =
    let same : n + 1 ≡ suc n = omega arith in
    ap (λ (k : ℕ). queues_in k mask) same ∙ queues-more n mask ∙ ap (λ (b : Bool). queues_in n mask ++ cond b (n ∷ []) []) is

-- the queue of a bit that is set is listed
pub queue-listed : (n mask : ℕ) → bit_and (mask / 2 ^ n) 1 ≡ 1 → queues_in (n + 1) mask ≡ queues_in n mask ++ n ∷ []
queue-listed n mask set =
    let bit : bit_at mask n ≡ 1 = sym (shr_and_one mask n) ∙ set in
    one-more n mask true (grind (arith, nat_tests))

-- the queue of a bit that is not set is not
pub queue-unlisted : (n mask : ℕ) → (bit_and (mask / 2 ^ n) 1 ≡ 1 → ⊥) → queues_in (n + 1) mask ≡ queues_in n mask
queue-unlisted n mask unset =
    let bit : bit_at mask n ≡ 1 → ⊥ = λ e. unset (shr_and_one mask n ∙ e) in
    one-more n mask false (grind (arith, nat_tests)) ∙ append-nil (queues_in n mask)

-- a mask of 64 bits lists no queue from 64 on
none-above : (k mask : ℕ) → mask < 2 ^ 64 → queues_in (64 + k) mask ≡ queues_in 64 mask
none-above zero mask fits = refl
none-above (suc k) mask fits =
    let same : 64 + suc k ≡ (64 + k) + 1 = omega arith in
    let bit : bit_at mask (64 + k) ≡ 0 = bit_at_above mask 64 (64 + k) fits (omega arith) in
    ap (λ (n : ℕ). queues_in n mask) same ∙ one-more (64 + k) mask false (grind (arith, nat_tests)) ∙ append-nil (queues_in (64 + k) mask) ∙ none-above k mask fits

pub queues-within : (count mask : ℕ) → mask < 2 ^ 64 → queues_in (min count 64) mask ≡ queues_in count mask
queues-within count mask fits =
    elim-on (nat_lt count 64) refl
  where
    elim-on : (b : Bool) → nat_lt count 64 ≡ b → queues_in (min count 64) mask ≡ queues_in count mask
    elim-on true is = let same : min count 64 ≡ count = grind (arith, nat_tests) in ap (λ (n : ℕ). queues_in n mask) same
    elim-on false is =
        let most : min count 64 ≡ 64 = grind (arith, nat_tests) in
        let same : 64 + (count - 64) ≡ count = grind (arith, nat_tests) in
        ap (λ (n : ℕ). queues_in n mask) most ∙ sym (none-above (count - 64) mask fits) ∙ ap (λ (n : ℕ). queues_in n mask) same
