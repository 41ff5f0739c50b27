-- The slot of an entry's number.
use Rattle.std.proofs.Common.{◌≡◌, ℕ, zero, suc, ◌+◌, ◌-◌, ◌/◌, ◌%◌, ◌^◌, ◌<◌, ◌⊎◌, inl, inr, true, sym, subst, arith}
use Rattle.std.proofs.Math.Pow.{mod-mod-pow}
use Rattle.std.proofs.lemmas.Bool.{eqb-true}
use Rattle.std.proofs.lemmas.Nat.{ones_le_self, zero_from_ones}
use Rattle.std.specs.Int.{is_power_of_two}
use Rattle.std.specs.Prelude.{count_ones}
use lib.Count.{ones_step}

-- a number with this many digits at most, and one digit set, is a power of two
record IsPower (k n : ℕ) : Type 0 where
  exponent : ℕ
  is : n ≡ 2 ^ exponent
  below : exponent < k

odd_power : (k n : ℕ) → n % 2 ≡ 1 → count_ones (n / 2) ≡ 0 → IsPower (suc k) n
odd_power k n odd none = record { exponent = 0; is = (let half : n / 2 ≡ 0 = zero_from_ones (n / 2) none in omega arith); below = omega arith }

even_power : (k n : ℕ) → n % 2 ≡ 0 → IsPower k (n / 2) → IsPower (suc k) n
even_power k n even half = record { exponent = suc half.exponent; is = (let is : n / 2 ≡ 2 ^ half.exponent = half.is in omega arith); below = omega (arith, half.below) }

power_of : (k n : ℕ) → n < 2 ^ k → count_ones n ≡ 1 → IsPower k n
power_of zero n h e = absurd (omega (arith, ones_le_self n))
power_of (suc k) n h e =
    let step = ones_step n in
    let halves : (n % 2 ≡ 0) ⊎ (n % 2 ≡ 1) = grind arith in
    elim halves [
      | inl even ↦ even_power k n even (power_of k (n / 2) (omega arith) (omega arith))
      | inr odd ↦ odd_power k n odd (omega arith)
    ]

slot_at : (n size : ℕ) → IsPower 16 size → n % 2 ^ 16 % size ≡ n % size
slot_at n size power =
    let split : 16 - power.exponent + power.exponent ≡ 16 = omega (arith, power.below) in
    subst (λ s. n % 2 ^ 16 % s ≡ n % s) (sym power.is)
    (subst (λ m. n % 2 ^ m % 2 ^ power.exponent ≡ n % 2 ^ power.exponent) split (mod-mod-pow n (16 - power.exponent) power.exponent))

pub slot_of_number : (n size : ℕ) → is_power_of_two size ≡ true → size < 2 ^ 16 → n % 2 ^ 16 % size ≡ n % size
slot_of_number n size power below = slot_at n size (power_of 16 size below (eqb-true (count_ones size) 1 power))
