-- A submit that a batch makes is accepted.
use Rattle.std.proofs.Common.{◌≡◌, ℕ, zero, suc, ◌+◌, ◌-◌, ◌*◌, ◌%◌, ◌^◌, ◌<◌, ◌≤◌, Bool, true, false, ◌||◌, List, [], ◌∷◌, length, get_or, None, refl, arith, eqb, ltb}
use Rattle.std.specs.List.{list_any}
use Rattle.std.proofs.lemmas.Bool.{ne_eqb, or_parts, ltb-false}
use Rattle.vub_mem.specs.Place.{covers}
use Rattle.vub_mem.specs.declared.region.Region.{Region}
use Rattle.vub_mem.proofs.Ranges.{covers_at, covers_from}
use Rattle.vub_driver.specs.Calls.{is_too_large, submit_covers, submit_fault}
use Rattle.vub_driver.specs.Places.{half_of, place_of, request_at, descriptors_at, avail_slot_at, avail_index_at}
use Rattle.vub_driver.specs.State.{State}
use Rattle.vub_driver.specs.declared.layout.Layout.{Layout}
use Rattle.vub_driver.proofs.Fitting.{place_below, pair_fits}
use Rattle.vub_talk.specs.Asking.{AreSmall, MaySubmit, is_large}
use Rattle.vub_talk.specs.declared.ask.Ask.{Ask}

-- a part of a covered range
covers_part : (rs : List Region) (a n b m : ℕ) → covers rs a n ≡ true → a ≤ b → b + m ≤ a + n → covers rs b m ≡ true
covers_part rs a n b m h low high = covers_from rs b m (λ x from to. covers_at rs a n x h (omega arith) (omega arith))

-- an ask that is not too large has a request within the slot
pub request_fits : (l : Layout) (len room : ℕ) → is_too_large l len room ≡ false → len ≤ l.slot
request_fits l len room small =
    let both = or_parts (ltb l.slot len || ltb l.slot room) (ltb (2 ^ 32 - 1) (len + room)) small in
    ltb-false l.slot len (or_parts (ltb l.slot len) (ltb l.slot room) both.0).0

pub request_short : (l : Layout) (len room : ℕ) → is_too_large l len room ≡ false → len < 2 ^ 32
request_short l len room small =
    let both = or_parts (ltb l.slot len || ltb l.slot room) (ltb (2 ^ 32 - 1) (len + room)) small in
    let sum : len + room ≤ 2 ^ 32 - 1 = ltb-false (2 ^ 32 - 1) (len + room) both.1 in
    omega arith

module _ (s : State) (rs : List Region) (more : ℕ) (may : MaySubmit s rs more) (some : 0 < more) where
  not_full : eqb (s.submitted - s.collected) (half_of s.layout) ≡ false
  not_full = ne_eqb (s.submitted - s.collected) (half_of s.layout) (λ full. (let h : 0 < half_of s.layout = may.fit.some in let free : s.submitted + more ≤ s.collected + half_of s.layout = may.free in absurd (omega arith)))

  below : place_of s.layout s.submitted < half_of s.layout
  below = place_below s.layout s.submitted may.fit

  slot_below : s.submitted % s.layout.size < s.layout.size
  slot_below = (let pos : 0 < s.layout.size = omega (arith, may.fit.some, may.fit.even) in omega arith)

  request : (len : ℕ) → len ≤ s.layout.slot → covers rs (request_at s.layout s.submitted) len ≡ true
  request len short =
      covers_part rs s.layout.buffers (s.layout.slot * s.layout.size) (request_at s.layout s.submitted) len may.covered.buffers (omega arith)
      (omega (arith, pair_fits (place_of s.layout s.submitted) (half_of s.layout) s.layout.slot s.layout.size below may.fit.even))

  chain : covers rs (descriptors_at s.layout s.submitted) 32 ≡ true
  chain = covers_part rs s.layout.desc (16 * s.layout.size) (descriptors_at s.layout s.submitted) 32 may.covered.desc (omega arith) (omega (arith, below, may.fit.even))

  slot : covers rs (avail_slot_at s.layout s.submitted) 2 ≡ true
  slot = covers_part rs s.layout.avail (6 + 2 * s.layout.size) (avail_slot_at s.layout s.submitted) 2 may.covered.avail (omega arith) (omega (arith, slot_below))

  index : covers rs (avail_index_at s.layout) 2 ≡ true
  index = covers_part rs s.layout.avail (6 + 2 * s.layout.size) (avail_index_at s.layout) 2 may.covered.avail (omega arith) (omega arith)

  all : (len : ℕ) → len ≤ s.layout.slot → submit_covers rs s len ≡ true
  unfolding submit_covers
  all len short = rw (request len short, chain, slot, index, may.plain) refl

  accepts : (len room : ℕ) → is_too_large s.layout len room ≡ false → submit_fault rs s len room ≡ None
  unfolding submit_fault
  accepts len room small = rw (not_full, small, all len (request_fits s.layout len room small)) refl

pub accepted : (s : State) (rs : List Region) (more len room : ℕ) → MaySubmit s rs more → 0 < more → is_too_large s.layout len room ≡ false → submit_fault rs s len room ≡ None
accepted s rs more len room may some small = accepts s rs more may some len room small

or_none : (b c : Bool) → (b || c) ≡ false → (b ≡ false) × (c ≡ false)
or_none b c h = or_parts b c h

-- none of the asks is too large
pub each_small : (l : Layout) (asks : List Ask) (i : ℕ) (d : Ask) → AreSmall l asks → i < length asks → is_large l (get_or asks i d) ≡ false
each_small l [] i d small below = absurd (omega arith)
each_small l (a ∷ asks) zero d small below = (or_none (is_large l a) (list_any (λ (x : Ask). is_large l x) asks) small).0
each_small l (a ∷ asks) (suc i) d small below = each_small l asks i d (or_none (is_large l a) (list_any (λ (x : Ask). is_large l x) asks) small).1 (omega arith)
