-- An event counter, after eventfd(2): a count from 0 to 2^64 - 2, to which a write adds and from which a read takes.
-- How it is reported to an interest list is after epoll(7).
use Rattle.std.specs.Prelude.{ℕ, ◌+◌, ◌-◌, ◌^◌, ◌==◌, ◌&&◌, Bool, if◌then◌else◌, nat_lt, Option, Some, None}
use Rattle.std.specs.Int.RustNames.{bit_and}
use Rattle.vub_event.specs.declared.error.HostError.{HostError}
use Rattle.vub_event.specs.declared.error.HostError.TheVariants.{WouldBlock, EINVAL}
use Rattle.vub_event.specs.declared.event.Event.{Event}

-- the greatest count
abbrev pub greatest_count : ℕ
greatest_count = 2 ^ 64 - 2

-- why a write of this value is refused
abbrev pub write_refusal : Event → ℕ → Option HostError
write_refusal event value =
    if value == 2 ^ 64 - 1 then Some EINVAL
    else if nat_lt greatest_count (event.count + value) then Some WouldBlock
    else None

-- the counter after a write of this value
abbrev pub written : Event → ℕ → Event
written event value = record event { count = event.count + value }

-- why a read is refused
abbrev pub read_refusal : Event → Option HostError
read_refusal event = if event.count == 0 then Some WouldBlock else None

-- what a read gives: 1 of a semaphore, else the count
abbrev pub read_value : Event → ℕ
read_value event = if event.semaphore then 1 else event.count

-- the counter after a read; a count of 0 stays
abbrev pub after_read : Event → Event
after_read event = record event { count = event.count - read_value event }

-- all of these bits are in the set
abbrev pub has_bits : ℕ → ℕ → Bool
has_bits set bits = bit_and set bits == bits

-- the bits with which a counter is reported to a member with this set: IN 1 where IN is asked for and there is
-- something to read, OUT 4 where OUT is asked for and a write of 1 is taken, HANG_UP 16 where it is hung up
abbrev pub reported_bits : Event → ℕ → ℕ
reported_bits event set =
    (if has_bits set 1 && nat_lt 0 event.count then 1 else 0)
    + (if has_bits set 4 && nat_lt event.count greatest_count then 4 else 0)
    + (if event.hung_up then 16 else 0)
