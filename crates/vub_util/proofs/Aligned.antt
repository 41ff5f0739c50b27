-- Rounding to a multiple of a power of two.
use Rattle.std.proofs.Common.{zero, suc, IsTrue, count_ones, rules, ◌≡◌, ℕ, ◌+◌, ◌-◌, ◌*◌, ◌/◌, ◌%◌, ◌^◌, ◌<◌, ◌≤◌, arith, bit_and, sym, ap, ◌∙◌, inl, inr}
use Rattle.std.specs.Int.{IsPowerOfTwo, is_power_of_two}
use Rattle.std.proofs.lemmas.Nat.{and_mask, div-add-mod', pow_pos, mul-le, pow-add, zero_from_ones, ones_le_self}
use Rattle.std.proofs.lemmas.Bool.{cases_lt}
use Rattle.std.proofs.Math.Nat.{le-div_iff_mul-le, pow-le-pow_right, pow-suc}
use lib.Count.{ones_step}
use Rattle.vub_util.specs.Align.{IsAlignedBelow, IsAlignedAbove, NoneAbove}

-- a number with one bit set is a power of two
one_bit : (k n : ℕ) → n < 2 ^ k → count_ones n ≡ 1 → IsPowerOfTwo n
one_bit zero n small one = absurd (omega (arith, ones_le_self n))
one_bit (suc k) n small one =
    let step : n % 2 + count_ones (n / 2) ≡ 1 = sym (ones_step n) ∙ one in
    let twice : 2 ^ suc k ≡ 2 ^ k * 2 = pow-suc 2 k in
    elim (cases_lt (n % 2) 1) [
      | inl even ↦
          let half = one_bit k (n / 2) (omega arith) (omega arith) in
          (suc half.0, omega (arith, half.1, pow-suc 2 half.0))
      | inr odd ↦ let none : n / 2 ≡ 0 = zero_from_ones (n / 2) (omega arith) in (0, omega arith)
    ]

pub power_of_test : (n : ℕ) → n < 2 ^ 64 → IsTrue (is_power_of_two n) → IsPowerOfTwo n
power_of_test n small test = let one : count_ones n ≡ 1 = search rules in one_bit 64 n small one

pub power_pos : (a : ℕ) → IsPowerOfTwo a → 0 < a
power_pos a (k, e) = omega (arith, pow_pos k, e)

-- the low bits of a number are what is left over the multiple
pub mask_is_mod : (a n : ℕ) → IsPowerOfTwo a → bit_and n (a - 1) ≡ n % a
mask_is_mod a n (k, e) = rw e (and_mask n k)

pub floor_is_below : (a n : ℕ) → 0 < a → IsAlignedBelow a n (n - n % a)
floor_is_below a n positive = record {
  aligned = (n / a, omega (arith, div-add-mod' n a));
  below = omega arith;
  greatest = λ k h.
      let fits : k ≤ n / a = (le-div_iff_mul-le positive).1 h in
      let product : k * a ≤ n / a * a = mul-le k a (n / a) a fits (omega arith) in
      omega (arith, div-add-mod' n a, product);
}

-- the multiple of a number below a raised address isn't past the multiple above the address
between_multiples : (a q k n : ℕ) → q * a ≤ n + (a - 1) → n ≤ k * a → 0 < a → q ≤ k
between_multiples a q k n low high positive =
    elim (cases_lt k q) [
      | inl more ↦ let product : (k + 1) * a ≤ q * a = mul-le (k + 1) a q a (omega arith) (omega arith) in absurd (omega (arith, product))
      | inr fits ↦ fits
    ]

-- the greatest multiple below the address raised by one less than the alignment
pub ceiling_is_above : (a n m : ℕ) → 0 < a → IsAlignedBelow a (n + (a - 1)) m → IsAlignedAbove a n m
ceiling_is_above a n m positive floor =
    let q = floor.aligned.0 in
    let is : m ≡ q * a = floor.aligned.1 in
    record {
      aligned = floor.aligned;
      above = elim (cases_lt m n) [
        | inl short ↦ let more : (q + 1) * a ≤ m = floor.greatest (q + 1) (omega arith) in absurd (omega (arith, more))
        | inr reaches ↦ reaches
      ];
      least = λ k h.
          let fits : q ≤ k = between_multiples a q k n (omega (arith, floor.below)) h positive in
          omega (arith, mul-le q a k a fits (omega arith));
    }

-- a power of two below 2 ^ 64 divides it
divides_word : (a : ℕ) → IsPowerOfTwo a → a < 2 ^ 64 → (c : ℕ) × (2 ^ 64 ≡ c * a)
divides_word a (k, e) small =
    elim (cases_lt k 64) [
      | inl below ↦ (2 ^ (64 - k), let whole : 64 - k + k ≡ 64 = omega arith in rw e (sym (ap (λ n. 2 ^ n) whole) ∙ pow-add 2 (64 - k) k))
      | inr above ↦ absurd (omega (arith, e, pow-le-pow_right {n = 2} (omega arith) above))
    ]

-- where the raised address passes 2 ^ 64 - 1, so does each multiple above
pub none_above : (a n : ℕ) → IsPowerOfTwo a → a < 2 ^ 64 → 2 ^ 64 ≤ n + (a - 1) → NoneAbove a n
none_above a n power fits wraps j h =
    let c = (divides_word a power fits).0 in
    let is : 2 ^ 64 ≡ c * a = (divides_word a power fits).1 in
    elim (cases_lt j c) [
      | inl below ↦ let product : (j + 1) * a ≤ c * a = mul-le (j + 1) a c a (omega arith) (omega arith) in absurd (omega (arith, product, is, power_pos a power))
      | inr above ↦ let product : c * a ≤ j * a = mul-le c a j a above (omega arith) in omega (arith, product, is)
    ]
