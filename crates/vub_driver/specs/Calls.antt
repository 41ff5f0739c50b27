-- What the calls of a driver answer and do.
use Rattle.std.specs.Prelude.{◌≡◌, ℕ, ◌+◌, ◌-◌, ◌%◌, ◌^◌, ◌==◌, Bool, true, not, ◌&&◌, ◌||◌, nat_lt, if◌then◌else◌}
use Rattle.std.specs.Prelude.{List, ◌++◌, length, replicate, slice_index, slice_set, Option, Some, None, Result, Ok}
use Rattle.std.specs.Prelude.{Err}
use Rattle.std.specs.Int.{w16, w32, w64, to_le_bytes}
use Rattle.vub_mem.specs.Memory.{Guest}
use Rattle.vub_mem.specs.Place.{bytes_at, covers, number_at, write_at}
use Rattle.vub_mem.specs.declared.region.Region.{Region}
use Rattle.vub_queue.specs.EntryNumber.{minus}
use Rattle.vub_driver.specs.Places.{half_of, place_of, head_of, request_at, reply_at, descriptors_at, avail_index_at}
use Rattle.vub_driver.specs.Places.{avail_slot_at, used_index_at, used_element_at, avail_event_at}
use Rattle.vub_driver.specs.State.{State}
use Rattle.vub_driver.specs.declared.done.Done.{Done}
use Rattle.vub_driver.specs.declared.error.DriverError.{DriverError}
use Rattle.vub_driver.specs.declared.error.DriverError.TheVariants.{Full, TooLarge, Outside, UsedAhead, BadId}
use Rattle.vub_driver.specs.declared.error.DriverError.TheVariants.{BadLength}
use Rattle.vub_driver.specs.declared.layout.Layout.{Layout}

-- a new driver: nothing was submitted
abbrev pub new_state : Layout → Bool → State
new_state l event_idx = record {
  layout = l;
  event_idx = event_idx;
  submitted = 0;
  collected = 0;
  rooms = replicate (half_of l) 0;
  tested = 0;
}

-- the 16 bytes of a descriptor: address, length, flags, next
abbrev pub descriptor_bytes : ℕ → ℕ → ℕ → ℕ → List ℕ
descriptor_bytes addr len flags next =
    to_le_bytes w64 addr ++ (to_le_bytes w32 len ++ (to_le_bytes w16 flags ++ to_le_bytes w16 next))

-- the two descriptors of request n: its bytes (flag NEXT), and the room for its reply (flag WRITE)
unfoldable pub chain_bytes : Layout → ℕ → ℕ → ℕ → List ℕ
chain_bytes l n len room =
    descriptor_bytes (request_at l n) len 1 (head_of l n + 1) ++ descriptor_bytes (reply_at l n) room 2 0

-- the available index after n requests, which counts in 16 bits
abbrev pub index_of : ℕ → ℕ
index_of n = n % 2 ^ 16

-- the memory after each of the four writes of request n: its bytes, its descriptors, its slot, and the index last
abbrev pub with_request : Layout → Guest → ℕ → List ℕ → Guest
with_request l g n request = write_at g (request_at l n) request

abbrev pub with_chain : Layout → Guest → ℕ → List ℕ → ℕ → Guest
with_chain l g n request room =
    write_at (with_request l g n request) (descriptors_at l n) (chain_bytes l n (length request) room)

abbrev pub with_slot : Layout → Guest → ℕ → List ℕ → ℕ → Guest
with_slot l g n request room =
    write_at (with_chain l g n request room) (avail_slot_at l n) (to_le_bytes w16 (head_of l n))

unfoldable pub submit_guest : Layout → Guest → ℕ → List ℕ → ℕ → Guest
submit_guest l g n request room =
    write_at (with_slot l g n request room) (avail_index_at l) (to_le_bytes w16 (index_of (n + 1)))

-- all that a submit of so many bytes writes and reads lies in guest memory
unfoldable pub submit_covers : List Region → State → ℕ → Bool
submit_covers rs s len =
    covers rs (request_at s.layout s.submitted) len
    && covers rs (descriptors_at s.layout s.submitted) 32
    && covers rs (avail_slot_at s.layout s.submitted) 2
    && covers rs (avail_index_at s.layout) 2
    && (not s.event_idx || covers rs (avail_event_at s.layout) 2)

-- the request or its room is above the slot, or both together above what a chain may hold
abbrev pub is_too_large : Layout → ℕ → ℕ → Bool
is_too_large l len room = nat_lt l.slot len || nat_lt l.slot room || nat_lt (2 ^ 32 - 1) (len + room)

-- the first test that a submit fails
unfoldable pub submit_fault : List Region → State → ℕ → ℕ → Option DriverError
submit_fault rs s len room =
    if s.submitted - s.collected == half_of s.layout then Some Full else
    if is_too_large s.layout len room then Some TooLarge else
    if not (submit_covers rs s len) then Some Outside else None

-- Whether the device asked for a signal of the request that this memory has now. By index it did where avail_event is
-- among the indexes since the last test (virtio 1.2, 2.7.10).
unfoldable pub needs_signal : State → Guest → Bool
needs_signal s g =
    let new = index_of (s.submitted + 1) in
    if s.event_idx
    then nat_lt (minus (minus new (number_at w16 g (avail_event_at s.layout))) 1) (minus new s.tested)
    else true

abbrev pub state_submitted : State → ℕ → State
state_submitted s room = record s {
  submitted = s.submitted + 1;
  rooms = slice_set s.rooms (place_of s.layout s.submitted) room;
  tested = index_of (s.submitted + 1);
}

-- a submit of this request with this room: what it answers, and what it makes of the driver and of the memory
abbrev pub Submits : State → Guest → List ℕ → ℕ → Result Bool DriverError → State → Guest → Type 0
Submits s g request room (Ok signal) t h =
    (submit_fault g.regions s (length request) room ≡ None)
    × (t ≡ state_submitted s room)
    × (h ≡ submit_guest s.layout g s.submitted request room)
    × (signal ≡ needs_signal s h)
Submits s g request room (Err e) t h =
    (submit_fault g.regions s (length request) room ≡ Some e) × (t ≡ s) × (h ≡ g)

-- how many used elements are new
abbrev pub new_of : State → Guest → ℕ
new_of s g = minus (number_at w16 g (used_index_at s.layout)) (index_of s.collected)

-- the oldest outstanding request: the id and the length in its used element, and the room that it had
abbrev pub id_of : State → Guest → ℕ
id_of s g = number_at w32 g (used_element_at s.layout s.collected)

abbrev pub len_of : State → Guest → ℕ
len_of s g = number_at w32 g (used_element_at s.layout s.collected + 4)

abbrev pub oldest_room : State → ℕ
oldest_room s = slice_index s.rooms (place_of s.layout s.collected)

-- its reply as the memory has it
abbrev pub done_of : State → Guest → Done
done_of s g = record { number = s.collected; reply = bytes_at g (reply_at s.layout s.collected) (len_of s g) }

-- what a collect answers: its tests in order
unfoldable pub collect_answer : State → Guest → Result (Option Done) DriverError
collect_answer s g =
    if not (covers g.regions (used_index_at s.layout) 2) then Err Outside else
    if new_of s g == 0 then Ok None else
    if nat_lt (s.submitted - s.collected) (new_of s g) then Err UsedAhead else
    if not (covers g.regions (used_element_at s.layout s.collected) 8) then Err Outside else
    if not (id_of s g == head_of s.layout s.collected) then Err BadId else
    if nat_lt (oldest_room s) (len_of s g) then Err BadLength else
    if not (covers g.regions (reply_at s.layout s.collected) (len_of s g)) then Err Outside else
    Ok (Some (done_of s g))

abbrev pub state_collected : State → Result (Option Done) DriverError → State
state_collected s (Ok (Some d)) = record s { collected = s.collected + 1 }
state_collected s (Ok None) = s
state_collected s (Err e) = s
