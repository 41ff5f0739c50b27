-- A timer, after timerfd_create(2): the next moment at which it expires and the interval after it, in nanoseconds. An
-- interval of 0 is none.
use Rattle.std.specs.Prelude.{ℕ, ◌+◌, ◌-◌, ◌/◌, ◌%◌, ◌≡◌, ◌≤◌, ◌<◌, ◌^◌, ◌==◌, ◌||◌, Bool, false, not, if◌then◌else◌}
use Rattle.std.specs.Prelude.{nat_lt, min, Option, Some, None}
use Rattle.std.specs.Duration.{as_nanos, max_nanos}
use Rattle.std.specs.declared.time.Duration.{Duration}
use Rattle.vub_counter.specs.declared.timer.Armed.{Armed}

-- how many of its expiries are not after this moment
abbrev pub expiries : Option Armed → ℕ → ℕ
expiries None now = 0
expiries (Some timer) now =
    if nat_lt now timer.next then 0 else if timer.interval == 0 then 1 else (now - timer.next) / timer.interval + 1

-- the timer once these are counted: it goes on with its first expiry after this moment, if it has one
abbrev pub after_wait : Option Armed → ℕ → Option Armed
after_wait None now = None
after_wait (Some timer) now =
    if nat_lt now timer.next then Some timer
    else if timer.interval == 0 then None
    else Some record timer { next = now - (now - timer.next) % timer.interval + timer.interval }

-- the timer that is set at this moment; a duration of 0 disarms it
abbrev pub set_timer : ℕ → ℕ → ℕ → Option Armed
set_timer now duration interval =
    if duration == 0 then None else Some record { next = min (now + duration) max_nanos; interval = interval }

-- the length of an interval, 0 for none
abbrev pub interval_of : Option Duration → ℕ
interval_of None = 0
interval_of (Some interval) = as_nanos interval

-- far below what 128 bits hold
abbrev pub IsSmall : Option Armed → Type 0
IsSmall None = Unit {0}
IsSmall (Some timer) = (timer.next < 2 ^ 96) × (timer.interval < 2 ^ 94)

-- it has an expiry after this moment
abbrev pub is_armed : Option Armed → ℕ → Bool
is_armed None now = false
is_armed (Some timer) now = nat_lt now timer.next || not (timer.interval == 0)

-- each expiry is counted once: what a wait counts and what a later one counts is what the later one alone would
abbrev pub CountsOnce : Option Armed → Type 0
CountsOnce timer =
    (now later : ℕ) → now ≤ later → expiries timer now + expiries (after_wait timer now) later ≡ expiries timer later
