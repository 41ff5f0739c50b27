-- The refusals of a host, and which of them a call may answer.
use Rattle.std.specs.Prelude.{ℕ, ◌≡◌, ◌==◌, List, Option, Some, Result, Ok, Err, IsTrue}
use Rattle.std.specs.List.{list_any}
use Rattle.vub_event.specs.declared.error.HostError.{HostError}
use Rattle.vub_event.specs.declared.error.HostError.TheVariants.{WouldBlock, EINVAL, EEXIST, ENOENT, EBADF, ENOBUFS}
use Rattle.vub_event.specs.declared.error.HostError.TheVariants.{Failed, Held, OutOfMemory}

-- the number of a refusal
abbrev pub error_number : HostError → ℕ
error_number WouldBlock = 1
error_number EINVAL = 2
error_number EEXIST = 3
error_number ENOENT = 4
error_number EBADF = 5
error_number ENOBUFS = 6
error_number Failed = 7
error_number Held = 8
error_number OutOfMemory = 9

-- a refusal is one of these
abbrev pub RefusesBy : {T : Type 0} → Result T HostError → List HostError → Type 0
RefusesBy (Ok x) errors = Unit {0}
RefusesBy (Err e) errors = IsTrue (list_any (λ x. error_number x == error_number e) errors)

-- a refusal is the one that is due by the table. A fault of the host and want of memory are due by nothing in the
-- table: the count of faults tells of the first, and the second is free
abbrev pub IsDue : Option HostError → HostError → Type 0
IsDue due Failed = Unit {0}
IsDue due OutOfMemory = Unit {0}
IsDue due e = due ≡ Some e
