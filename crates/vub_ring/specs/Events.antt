-- A signal and a read of one event, where a counter that can't be written or read any further is no error.
use Rattle.std.specs.Prelude.{ℕ, Option, None, Result, Ok, Err}
use Rattle.vub_event.specs.declared.error.HostError.{HostError}
use Rattle.vub_event.specs.declared.error.HostError.TheVariants.{WouldBlock, Failed}
use Rattle.vub_event.specs.HostTable.{HostTable, event_at, with_event}
use Rattle.vub_event.specs.HostCalls.{Meets, Done, due_of}
use Rattle.vub_ring.specs.declared.ops.PartsError.{PartsError}
use Rattle.vub_ring.specs.declared.ops.PartsError.TheVariants.{Fault}
use Rattle.vub_model.specs.Shared.{raised_option, read_option}

-- what would block counts as done
abbrev pub settled : {T : Type 0} → Result T HostError → Result (Unit {0}) HostError
settled (Ok x) = Ok tt
settled (Err WouldBlock) = Ok tt
settled (Err e) = Err e

-- any refusal but a fault of the host counts as done
abbrev pub unless_failed : Result (Unit {0}) HostError → Result (Unit {0}) PartsError
unless_failed (Err Failed) = Err Fault
unless_failed r = Ok tt

-- the table with 1 added to an event's count, where it is not full
abbrev pub table_raised : HostTable → ℕ → HostTable
table_raised table object = with_event table object (raised_option (event_at table object))

-- the table after an event's counter is read
abbrev pub table_read : HostTable → ℕ → HostTable
table_read table object = with_event table object (read_option (event_at table object))

-- EBADF where there is no such event
abbrev pub missing : HostTable → ℕ → Option HostError
missing table object = due_of (λ event. None) (event_at table object)

abbrev pub RaisesEvent : {T : Type 0} → ℕ → Result T HostError → HostTable → HostTable → Type 0
RaisesEvent object result old new = Meets (missing old object) Done (table_raised old object) result old new

abbrev pub ReadsEvent : {T : Type 0} → ℕ → Result T HostError → HostTable → HostTable → Type 0
ReadsEvent object result old new = Meets (missing old object) Done (table_read old object) result old new
