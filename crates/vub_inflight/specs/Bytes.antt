-- A record as bytes (vhost-user, QueueRegionSplit): features, version, number of descriptors, last head and used index,
-- and then for each descriptor a flag, five bytes and a word that are ignored, and a counter. All are little-endian.
use Rattle.std.specs.Prelude.{ℕ, zero, suc, ◌+◌, ◌==◌, Bool, true, ◌&&◌, nat_le, if◌then◌else◌, List, [], ◌∷◌, ◌++◌, drop, slice_index}
use Rattle.std.specs.List.{flat_map}
use Rattle.std.specs.Int.{w16, w64, to_le_bytes, from_le_bytes}
use Rattle.vub_inflight.specs.State.{State, idle}
use Rattle.vub_inflight.specs.declared.slot.Slot.{Slot}

-- A descriptor that is not in flight has counter 0.
abbrev pub slot_bytes : Slot → List ℕ
slot_bytes s =
    (if s.in_flight then 1 else 0) ∷ 0 ∷ 0 ∷ 0 ∷ 0 ∷ 0 ∷ 0 ∷ 0 ∷ to_le_bytes w64 (if s.in_flight then s.counter else 0)

-- what stands before the slots, with version 1
abbrev pub front_bytes : ℕ → ℕ → ℕ → List ℕ
front_bytes size last used =
    to_le_bytes w64 0 ++ (to_le_bytes w16 1 ++ (to_le_bytes w16 size ++ (to_le_bytes w16 last ++ to_le_bytes w16 used)))

unfoldable pub record_of : State → List ℕ
record_of s = front_bytes s.ring.size s.last s.used ++ flat_map slot_bytes s.slots

-- the little-endian word at a place
abbrev pub word_in : List ℕ → ℕ → ℕ
word_in bs at = from_le_bytes w16 (slice_index bs at ∷ slice_index bs (at + 1) ∷ [])

-- the counter of the slot that these bytes begin with: those from the eighth on
abbrev pub counter_in : List ℕ → ℕ
counter_in bs =
    from_le_bytes w64 (slice_index bs 8 ∷ slice_index bs 9 ∷ slice_index bs 10 ∷ slice_index bs 11 ∷
    slice_index bs 12 ∷ slice_index bs 13 ∷ slice_index bs 14 ∷ slice_index bs 15 ∷ [])

-- the slot that these bytes begin with, of which the counter is read where it is in flight
abbrev pub slot_in : List ℕ → Slot
slot_in bs = if slice_index bs 0 == 1 then record { in_flight = true; counter = counter_in bs } else idle

-- this many slots, one after the other
abbrev pub slots_in : ℕ → List ℕ → List Slot
slots_in zero bs = []
slots_in (suc n) bs = slot_in bs ∷ slots_in n (drop 16 bs)

-- the flag of none of this many slots is above 1
abbrev pub flags_fit : ℕ → List ℕ → Bool
flags_fit zero bs = true
flags_fit (suc n) bs = nat_le (slice_index bs 0) 1 && flags_fit n (drop 16 bs)
