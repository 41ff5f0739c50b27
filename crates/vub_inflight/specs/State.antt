-- What a contract sees of a ring with its record.
use Rattle.std.specs.Prelude.{ℕ, Bool, false, List, slice_index_or}
use Rattle.vub_queue.specs.Ring.{Ring}
use Rattle.vub_inflight.specs.declared.slot.Slot.{Slot}
use Rattle.vub_inflight.specs.declared.stage.Stage.{Stage}

pub record State : Type 0 where
  -- the queue
  pub ring : Ring
  -- the record: the head that was marked last, the used index at the last settled use, one slot for each descriptor
  pub last : ℕ
  pub used : ℕ
  pub slots : List Slot
  -- the counter of the next entry that is taken
  pub next : ℕ
  -- how far the use of the last head has come
  pub stage : Stage

-- a descriptor that is no head in flight
abbrev pub idle : Slot
idle = record { in_flight = false; counter = 0 }

-- what the record says of a head
abbrev pub slot_at : State → ℕ → Slot
slot_at s h = slice_index_or s.slots h idle

-- whether the entry with this head was taken and its use not cleared
abbrev pub in_flight : State → ℕ → Bool
in_flight s h = (slot_at s h).in_flight
