-- The cells that driver and device read and write, each in its area, and which of them lie apart.
use Rattle.std.proofs.Common.{◌≡◌, ◌≢◌, ◌⊎◌, ℕ, ◌+◌, ◌*◌, ◌/◌, ◌%◌, ◌<◌, ◌≤◌, inl, inr, arith}
use Rattle.std.proofs.Math.Nat.{mul-le-mul_left}
use Rattle.vub_driver.specs.Places.{half_of, place_of, request_at, reply_at, descriptors_at, avail_index_at, avail_slot_at, used_index_at, used_element_at, avail_event_at}
use Rattle.vub_driver.specs.declared.layout.Layout.{Layout}
use Rattle.vub_driver.proofs.Fitting.{AreApart, IsApart, place_below, pair_fits}

-- a cell of k bytes at x lies in an area of n bytes at a
pub record In (x k a n : ℕ) : Type 0 where
  pub low : a ≤ x
  pub high : x + k ≤ a + n

-- cells of areas that lie apart lie apart
pub far : {a n b m x k y j : ℕ} → AreApart a n b m → In x k a n → In y j b m → AreApart x k y j
far (inl below) first second = inl (omega (arith, first.high, second.low))
far (inr above) first second = inr (omega (arith, first.low, second.high))

pub turned : (a n b m : ℕ) → AreApart a n b m → AreApart b m a n
turned a n b m (inl below) = inr below
turned a n b m (inr above) = inl above

-- the same, the other way round
pub far_back : {a n b m x k y j : ℕ} → AreApart a n b m → In x k a n → In y j b m → AreApart y j x k
far_back (inl below) first second = inr (omega (arith, first.high, second.low))
far_back (inr above) first second = inl (omega (arith, first.low, second.high))

slot_below : (l : Layout) (n : ℕ) → IsApart l → n % l.size < l.size
slot_below l n apart = (let some : 0 < l.size = omega (arith, apart.fit.some) in omega arith)

pub in_chain : (l : Layout) (n : ℕ) → IsApart l → In (descriptors_at l n) 32 l.desc (16 * l.size)
in_chain l n apart = record { low = omega arith; high = omega (arith, place_below l n apart.fit, apart.fit.even) }

pub in_slot : (l : Layout) (n : ℕ) → IsApart l → In (avail_slot_at l n) 2 l.avail (6 + 2 * l.size)
in_slot l n apart = record { low = omega arith; high = omega (arith, slot_below l n apart) }

pub in_index : (l : Layout) → In (avail_index_at l) 2 l.avail (6 + 2 * l.size)
in_index l = record { low = omega arith; high = omega arith }

pub in_used : (l : Layout) → In (used_index_at l) 2 l.used (6 + 8 * l.size)
in_used l = record { low = omega arith; high = omega arith }

pub in_element : (l : Layout) (n : ℕ) → IsApart l → In (used_element_at l n) 8 l.used (6 + 8 * l.size)
in_element l n apart = record { low = omega arith; high = omega (arith, slot_below l n apart) }

pub in_event : (l : Layout) → In (avail_event_at l) 2 l.used (6 + 8 * l.size)
in_event l = record { low = omega arith; high = omega arith }

pub in_request : (l : Layout) (n len : ℕ) → IsApart l → len ≤ l.slot → In (request_at l n) len l.buffers (l.slot * l.size)
in_request l n len apart fits = record {
  low = omega arith;
  high = omega (arith, pair_fits (place_of l n) (half_of l) l.slot l.size (place_below l n apart.fit) apart.fit.even);
}

pub in_reply : (l : Layout) (n len : ℕ) → IsApart l → len ≤ l.slot → In (reply_at l n) len l.buffers (l.slot * l.size)
in_reply l n len apart fits = record {
  low = omega arith;
  high = omega (arith, pair_fits (place_of l n) (half_of l) l.slot l.size (place_below l n apart.fit) apart.fit.even);
}

-- two numbers less than m apart have two remainders
mod_apart : (m a b : ℕ) → 0 < m → a < b → b < a + m → a % m ≢ b % m
mod_apart m a b pos less near same =
    let cases : (a / m < b / m) ⊎ (b / m ≤ a / m) = grind arith in
    let first : m * (a / m) + a % m ≡ a = omega arith in
    let second : m * (b / m) + b % m ≡ b = omega arith in
    elim cases [
      | inl below ↦
          let next : a / m + 1 ≤ b / m = omega arith in
          let product : m * (a / m + 1) ≤ m * (b / m) = mul-le-mul_left m next in
          absurd (omega arith)
      | inr above ↦
          let product : m * (b / m) ≤ m * (a / m) = mul-le-mul_left m above in
          absurd (omega arith)
    ]

pub places_apart : (l : Layout) (a b : ℕ) → IsApart l → a < b → b < a + half_of l → place_of l a ≢ place_of l b
places_apart l a b apart less near = mod_apart (half_of l) a b apart.fit.some less near

pub slots_apart : (l : Layout) (a b : ℕ) → IsApart l → a < b → b < a + half_of l → a % l.size ≢ b % l.size
slots_apart l a b apart less near = mod_apart l.size a b (omega (arith, apart.fit.some)) less (omega (arith, apart.fit.even))

less_or : (a b : ℕ) → a ≢ b → (a < b) ⊎ (b < a)
less_or a b other = grind arith

-- the pairs of buffers of two places
pairs_step : (p q slot : ℕ) → p < q → 2 * p * slot + 2 * slot ≤ 2 * q * slot
pairs_step p q slot less =
    let next : p + 1 ≤ q = omega arith in
    let product : slot * (p + 1) ≤ slot * q = mul-le-mul_left slot next in
    omega arith

pub request_request : (l : Layout) (n m k j : ℕ) → place_of l n ≢ place_of l m → k ≤ l.slot → j ≤ l.slot → AreApart (request_at l n) k (request_at l m) j
request_request l n m k j other first second = elim (less_or (place_of l n) (place_of l m) other) [
  | inl less ↦ inl (omega (arith, pairs_step (place_of l n) (place_of l m) l.slot less))
  | inr more ↦ inr (omega (arith, pairs_step (place_of l m) (place_of l n) l.slot more))
]

pub reply_request : (l : Layout) (n m k j : ℕ) → place_of l n ≢ place_of l m → k ≤ l.slot → j ≤ l.slot → AreApart (reply_at l n) k (request_at l m) j
reply_request l n m k j other first second = elim (less_or (place_of l n) (place_of l m) other) [
  | inl less ↦ inl (omega (arith, pairs_step (place_of l n) (place_of l m) l.slot less))
  | inr more ↦ inr (omega (arith, pairs_step (place_of l m) (place_of l n) l.slot more))
]

pub reply_reply : (l : Layout) (n m k j : ℕ) → place_of l n ≢ place_of l m → k ≤ l.slot → j ≤ l.slot → AreApart (reply_at l n) k (reply_at l m) j
reply_reply l n m k j other first second = elim (less_or (place_of l n) (place_of l m) other) [
  | inl less ↦ inl (omega (arith, pairs_step (place_of l n) (place_of l m) l.slot less))
  | inr more ↦ inr (omega (arith, pairs_step (place_of l m) (place_of l n) l.slot more))
]

pub chain_chain : (l : Layout) (n m : ℕ) → place_of l n ≢ place_of l m → AreApart (descriptors_at l n) 32 (descriptors_at l m) 32
chain_chain l n m other = elim (less_or (place_of l n) (place_of l m) other) [
  | inl less ↦ inl (omega arith)
  | inr more ↦ inr (omega arith)
]

pub slot_slot : (l : Layout) (n m : ℕ) → n % l.size ≢ m % l.size → AreApart (avail_slot_at l n) 2 (avail_slot_at l m) 2
slot_slot l n m other = elim (less_or (n % l.size) (m % l.size) other) [ inl less ↦ inl (omega arith) | inr more ↦ inr (omega arith) ]

pub element_element : (l : Layout) (n m : ℕ) → n % l.size ≢ m % l.size → AreApart (used_element_at l n) 8 (used_element_at l m) 8
element_element l n m other = elim (less_or (n % l.size) (m % l.size) other) [ inl less ↦ inl (omega arith) | inr more ↦ inr (omega arith) ]

pub slot_index : (l : Layout) (n : ℕ) → AreApart (avail_slot_at l n) 2 (avail_index_at l) 2
slot_index l n = inr (omega arith)

pub element_used : (l : Layout) (n : ℕ) → AreApart (used_element_at l n) 8 (used_index_at l) 2
element_used l n = inr (omega arith)

pub event_used : (l : Layout) → AreApart (avail_event_at l) 2 (used_index_at l) 2
event_used l = inr (omega arith)

pub element_event : (l : Layout) (n : ℕ) → IsApart l → AreApart (used_element_at l n) 8 (avail_event_at l) 2
element_event l n apart = inl (omega (arith, slot_below l n apart))
