-- Whether the driver wants to be notified of what was used, and what it is told to notify of (virtio 1.2, 2.7.7 and
-- 2.7.10).
use Rattle.std.specs.Prelude.{ℕ, Bool, true, nat_lt, if◌then◌else◌, List, Result, Ok, Err}
use Rattle.std.specs.Int.{w16, to_le_bytes}
use Rattle.vub_mem.specs.Memory.{Guest}
use Rattle.vub_mem.specs.Place.{covers, number_at, write_at}
use Rattle.vub_mem.specs.declared.region.Region.{Region}
use Rattle.vub_queue.specs.EntryNumber.{minus}
use Rattle.vub_queue.specs.Layout.{avail_event_at, used_event_at, used_flags_at}
use Rattle.vub_queue.specs.Ring.{Ring}
use Rattle.vub_queue.specs.declared.error.QueueError.{QueueError}
use Rattle.vub_queue.specs.declared.error.QueueError.TheVariants.{Outside}

-- whether the word used_event lies in guest memory, if it is needed
unfoldable pub used_event_covers : List Region → Ring → Bool
used_event_covers rs r = if r.event_idx then covers rs (used_event_at r) 2 else true

-- Whether the driver wants to be notified. By index it does where used_event is among the numbers that were used since
-- it was last told.
unfoldable pub wants_notification : Guest → Ring → Bool
wants_notification g r =
    if r.event_idx
    then nat_lt (minus (minus r.next_used (number_at w16 g (used_event_at r))) 1) (minus r.next_used r.told)
    else true

-- the ring after a test for a notification
abbrev pub ring_told : Ring → Ring
ring_told r = record r { told = r.next_used }

abbrev pub needs_answer : Guest → Ring → Result Bool QueueError
needs_answer g r = if used_event_covers g.regions r then Ok (wants_notification g r) else Err Outside

-- The word by which the driver is asked for notifications of new entries: avail_event by index, else the flags of the
-- used ring, where 0 asks and 1 does not.
abbrev pub asking_at : Ring → ℕ
asking_at r = if r.event_idx then avail_event_at r else used_flags_at r

abbrev pub asking_word : Ring → ℕ
asking_word r = if r.event_idx then r.next_avail else 0

abbrev pub guest_asking : Guest → Ring → Guest
guest_asking g r = write_at g (asking_at r) (to_le_bytes w16 (asking_word r))

abbrev pub guest_declining : Guest → Ring → Guest
guest_declining g r = if r.event_idx then g else write_at g (used_flags_at r) (to_le_bytes w16 1)
