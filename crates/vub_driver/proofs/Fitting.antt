-- What the layouts are that a driver takes.
use Rattle.std.proofs.Common.{◌≡◌, ◌⊎◌, ℕ, ◌+◌, ◌*◌, ◌/◌, ◌%◌, ◌^◌, ◌<◌, ◌≤◌, inl, inr, Bool, true, false, not, cond, ◌&&◌, ◌||◌, Option, Some, None, refl, ap, arith, leb, eqb}
use Rattle.std.specs.Int.{is_power_of_two}
use Rattle.std.specs.Prelude.{count_ones}
use Rattle.std.proofs.lemmas.Bool.{and_parts, or_cases, leb-true, ltb-true, eqb-true}
use Rattle.std.proofs.lemmas.Nat.{zero_from_ones}
use Rattle.std.proofs.Math.Nat.{mul-le-mul_left}
use lib.Count.{ones_step}
use Rattle.vub_driver.specs.Layouts.{has_size, is_aligned, is_disjoint, new_fault, is_apart}
use Rattle.vub_driver.specs.Places.{half_of, place_of, request_at}
use Rattle.vub_driver.specs.View.{IsFit}
use Rattle.vub_driver.specs.declared.error.DriverError.{DriverError}
use Rattle.vub_driver.specs.declared.error.DriverError.TheVariants.{Size, Misaligned, Overlap}
use Rattle.vub_driver.specs.declared.layout.Layout.{Layout}

pub place_below : (l : Layout) (n : ℕ) → IsFit l → place_of l n < half_of l
place_below l n fit = (let some : 0 < half_of l = fit.some in omega arith)

pub place_fits : (l : Layout) (n : ℕ) → IsFit l → 2 * place_of l n + 2 ≤ l.size
place_fits l n fit = omega (arith, place_below l n fit, fit.even)

-- the two buffers of a place end within the buffers
pub pair_fits : (p h slot size : ℕ) → p < h → size ≡ 2 * h → 2 * p * slot + 2 * slot ≤ slot * size
pair_fits p h slot size below even =
    let next : p + 1 ≤ h = omega arith in
    let product : slot * (p + 1) ≤ slot * h = mul-le-mul_left slot next in
    let whole : slot * size ≡ slot * (2 * h) = ap (λ x. slot * x) even in
    omega arith

pub buffers_fit : (l : Layout) (n : ℕ) → IsFit l → request_at l n + l.slot + l.slot < 2 ^ 64
buffers_fit l n fit = omega (arith, pair_fits (place_of l n) (half_of l) l.slot l.size (place_below l n fit) fit.even, fit.buffers)

is_even : (n : ℕ) → is_power_of_two n ≡ true → 2 ≤ n → n ≡ 2 * (n / 2)
is_even n power two =
    let one : count_ones n ≡ 1 = eqb-true (count_ones n) 1 power in
    let step = ones_step n in
    let halves : (n % 2 ≡ 0) ⊎ (n % 2 ≡ 1) = grind arith in
    elim halves [
      | inl even ↦ omega arith
      | inr odd ↦
          let none : count_ones (n / 2) ≡ 0 = omega arith in
          let half : n / 2 ≡ 0 = zero_from_ones (n / 2) none in
          omega arith
    ]

pub record IsSized (l : Layout) : Type 0 where
  pub power : is_power_of_two l.size ≡ true
  pub two : 2 ≤ l.size
  pub small : l.size ≤ 32768

pub sized : (l : Layout) → has_size l ≡ true → IsSized l
unfolding has_size
sized l h =
    let small = and_parts (is_power_of_two l.size && leb 2 l.size) (leb l.size 32768) h in
    let two = and_parts (is_power_of_two l.size) (leb 2 l.size) small.0 in
    record { power = two.0; two = leb-true 2 l.size two.1; small = leb-true l.size 32768 small.1 }

-- two ranges of addresses that do not meet
abbrev pub AreApart : ℕ → ℕ → ℕ → ℕ → Type 0
AreApart a n b m = (a + n ≤ b) ⊎ (b + m ≤ a)

apart_by : (a n b m : ℕ) → 0 < n → 0 < m → is_apart (record { at = a; len = n }) (record { at = b; len = m }) ≡ true → AreApart a n b m
apart_by a n b m n_some m_some h =
    elim (or_cases ((eqb n 0 || eqb m 0) || leb (a + n) b) (leb (b + m) a) h) [
      | inr above ↦ inr (leb-true (b + m) a above)
      | inl rest ↦ elim (or_cases (eqb n 0 || eqb m 0) (leb (a + n) b) rest) [
        | inr below ↦ inl (leb-true (a + n) b below)
        | inl empty ↦ elim (or_cases (eqb n 0) (eqb m 0) empty) [
          | inl none ↦ (let zero : n ≡ 0 = eqb-true n 0 none in absurd (omega arith))
          | inr none ↦ (let zero : m ≡ 0 = eqb-true m 0 none in absurd (omega arith))
        ]
      ]
    ]

-- the four areas of a layout with buffers
pub record IsApart (l : Layout) : Type 0 where
  pub fit : IsFit l
  pub power : is_power_of_two l.size ≡ true
  pub desc_avail : AreApart l.desc (16 * l.size) l.avail (6 + 2 * l.size)
  pub desc_used : AreApart l.desc (16 * l.size) l.used (6 + 8 * l.size)
  pub desc_buffers : AreApart l.desc (16 * l.size) l.buffers (l.slot * l.size)
  pub avail_used : AreApart l.avail (6 + 2 * l.size) l.used (6 + 8 * l.size)
  pub avail_buffers : AreApart l.avail (6 + 2 * l.size) l.buffers (l.slot * l.size)
  pub used_buffers : AreApart l.used (6 + 8 * l.size) l.buffers (l.slot * l.size)

mul_pos : (a b : ℕ) → 0 < a → 0 < b → 0 < a * b
mul_pos a b x y = grind arith

pub fits : (l : Layout) → has_size l ≡ true → is_disjoint l ≡ true → IsFit l
unfolding is_disjoint
fits l size off =
    let s = sized l size in
    let even : l.size ≡ 2 * half_of l = is_even l.size s.power s.two in
    let all = and_parts _ _ off in
    let desc = and_parts _ _ all.0 in
    let avail = and_parts _ _ desc.1 in
    let used = and_parts _ _ avail.1 in
    let buffers = and_parts _ _ used.1 in
    record {
      even = even;
      some = omega (arith, s.two);
      small = s.small;
      desc = ltb-true (l.desc + 16 * l.size) (2 ^ 64) desc.0;
      avail = ltb-true (l.avail + (6 + 2 * l.size)) (2 ^ 64) avail.0;
      used = ltb-true (l.used + (6 + 8 * l.size)) (2 ^ 64) used.0;
      buffers = ltb-true (l.buffers + l.slot * l.size) (2 ^ 64) buffers.0;
    }

apart_from : (l : Layout) → 0 < l.slot → has_size l ≡ true → is_disjoint l ≡ true → IsApart l
unfolding is_disjoint
apart_from l some size off =
    let s = sized l size in
    let pos : 0 < l.size = omega (arith, s.two) in
    let descs : 0 < 16 * l.size = omega arith in
    let bytes : 0 < l.slot * l.size = mul_pos l.slot l.size some pos in
    let pairs = (and_parts _ _ off).1 in
    let desc = and_parts _ _ pairs in
    let avail = and_parts _ _ desc.1 in
    let used = and_parts _ _ avail.1 in
    let desc1 = and_parts _ _ desc.0 in
    let desc2 = and_parts _ _ desc1.1 in
    let desc3 = and_parts _ _ desc2.1 in
    let avail1 = and_parts _ _ avail.0 in
    let avail2 = and_parts _ _ avail1.1 in
    let used1 = and_parts _ _ used.0 in
    record {
      fit = fits l size off;
      power = s.power;
      desc_avail = apart_by l.desc (16 * l.size) l.avail (6 + 2 * l.size) descs (omega arith) desc1.0;
      desc_used = apart_by l.desc (16 * l.size) l.used (6 + 8 * l.size) descs (omega arith) desc2.0;
      desc_buffers = apart_by l.desc (16 * l.size) l.buffers (l.slot * l.size) descs bytes desc3.0;
      avail_used = apart_by l.avail (6 + 2 * l.size) l.used (6 + 8 * l.size) (omega arith) (omega arith) avail1.0;
      avail_buffers = apart_by l.avail (6 + 2 * l.size) l.buffers (l.slot * l.size) (omega arith) bytes avail2.0;
      used_buffers = apart_by l.used (6 + 8 * l.size) l.buffers (l.slot * l.size) (omega arith) bytes used1.0;
    }

none_past : (b : Bool) (e : DriverError) (x : Option DriverError) → cond (not b) (Some e) x ≡ None → (b ≡ true) × (x ≡ None)
none_past true e x h = (refl, h)
none_past false e x h = absurd (let no : ⊥ = cc in no)

-- a layout with buffers that a driver takes
pub apart_taken : (l : Layout) → 0 < l.slot → new_fault l ≡ None → IsApart l
unfolding new_fault
apart_taken l some h =
    let size = none_past (has_size l) Size _ h in
    let aligned = none_past (is_aligned l) Misaligned _ size.1 in
    let disjoint = none_past (is_disjoint l) Overlap None aligned.1 in
    apart_from l some size.0 disjoint.0
