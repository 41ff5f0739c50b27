-- Laws of a host that tells its table, for a few calls one after the other: what is answered, and which table is left.
use Rattle.std.specs.Prelude.{ℕ, ◌+◌, ◌-◌, ◌≡◌, ◌<◌, ◌⊎◌, List, [], ◌∷◌, take, true, false, is_some, if◌then◌else◌}
use Rattle.std.specs.Prelude.{Option, Some, None, Result, Ok, Err, MatchOption}
use Rattle.vub_event.specs.declared.error.HostError.{HostError}
use Rattle.vub_event.specs.declared.error.HostError.TheVariants.{WouldBlock, EINVAL, EEXIST, EBADF, Failed}
use Rattle.vub_event.specs.declared.event.Event.{Event}
use Rattle.vub_event.specs.declared.member.Member.{Member}
use Rattle.vub_event.specs.Counter.{write_refusal, written, read_refusal}
use Rattle.vub_event.specs.Errors.{IsDue}
use Rattle.vub_event.specs.HostCalls.{due_of, with_change, add_refusal, add_after}
use Rattle.vub_event.specs.HostTable.{HostTable, event_at, with_event}

-- refused, and by this refusal where it is neither a fault nor want of memory
abbrev pub IsRefusedAs : {T : Type 0} → HostError → Result T HostError → Type 0
IsRefusedAs due (Ok x) = ⊥
IsRefusedAs due (Err e) = IsDue (Some due) e

-- a refusal of a call that takes no memory: a fault of the host, or the one that is due
abbrev pub IsDueOrFault : Option HostError → HostError → Type 0
IsDueOrFault due Failed = Unit {0}
IsDueOrFault due e = due ≡ Some e

-- one of two calls is refused: the first, and the table is as it was; or the second, which takes no memory, and the
-- table is what the first left
abbrev pub Stops : Option HostError → HostTable → Option HostError → HostError → HostTable → HostTable → Type 0
Stops first between second e old now =
    (IsDue first e × (now ≡ old)) ⊎ ((first ≡ None) × IsDueOrFault second e × (now ≡ between))

-- add, and then delete: both are done only where the add is accepted, and then the table is as it was. The delete is
-- due no refusal
abbrev pub AddsAndDeletes : {T : Type 0} → ℕ → Member → Result T HostError → HostTable → HostTable → Type 0
AddsAndDeletes list new (Ok x) old now = (add_refusal old list new ≡ None) × (now ≡ old)
AddsAndDeletes list new (Err e) old now = Stops (add_refusal old list new) (add_after old list new) None e old now

-- add twice: where the first is accepted, the second is due EEXIST and adds nothing; where the first is refused, that
-- is the answer
abbrev pub AddsTwice :
    {T : Type 0} → ℕ → Member → Result (Result T HostError) HostError → HostTable → HostTable → Type 0
AddsTwice list new (Ok second) old now =
    (add_refusal old list new ≡ None) × IsRefusedAs EEXIST second × (now ≡ add_after old list new)
AddsTwice list new (Err e) old now = IsDue (add_refusal old list new) e × (now ≡ old)

-- a read of a counter whose count is `sum`: it is above 0, and a counter that is no semaphore gives it whole and leaves
-- 0, while a semaphore gives 1 and leaves the rest. Nothing else changes
pub record ReadsSum (object sum read : ℕ) (event : Event) (old now : HostTable) : Type 0 where
  pub above : 0 < sum
  pub counter : event.semaphore ≡ false → (read ≡ sum) × (now ≡ with_event old object (Some record event { count = 0 }))
  pub semaphore :
      event.semaphore ≡ true → (read ≡ 1) × (now ≡ with_event old object (Some record event { count = sum - 1 }))

-- a write, and then a read: both are done only where the write is accepted, and the read is of the count before and the
-- value
abbrev pub WritesAndReads : ℕ → ℕ → Result ℕ HostError → HostTable → HostTable → Type 0
WritesAndReads object value (Ok read) old now =
    MatchOption (event_at old object) ⊥
    (λ event. (write_refusal event value ≡ None) × ReadsSum object (event.count + value) read event old now)
WritesAndReads object value (Err e) old now =
    MatchOption (event_at old object) (IsDueOrFault (Some EBADF) e × (now ≡ old))
    (λ event. Stops (write_refusal event value) (with_event old object (Some (written event value)))
    (read_refusal (written event value)) e old now)

-- what is accepted of a write, and a counter after it: a refused one adds nothing
abbrev pub accepted_value : Event → ℕ → ℕ
accepted_value event value = if is_some (write_refusal event value) then 0 else value

abbrev pub after_write : Event → ℕ → Event
after_write event value = written event (accepted_value event value)

-- the sum of the writes that are accepted, of several
abbrev pub accepted_sum : Event → List ℕ → ℕ
accepted_sum event [] = 0
accepted_sum event (value ∷ values) = accepted_value event value + accepted_sum (after_write event value) values

-- a counter, and the table, after several writes
abbrev pub after_writes : Event → List ℕ → Event
after_writes event values = written event (accepted_sum event values)

abbrev pub writes_after : HostTable → ℕ → List ℕ → HostTable
writes_after table object values =
    with_change (λ event. after_writes event values) table object (event_at table object)

-- a write that the counter refuses is passed over
abbrev pub passed_over : Result (Unit {0}) HostError → Result (Unit {0}) HostError
passed_over (Err WouldBlock) = Ok tt
passed_over (Err EINVAL) = Ok tt
passed_over answer = answer

abbrev pub WritesOne : {T : Type 0} → ℕ → ℕ → Result T HostError → HostTable → HostTable → Type 0
WritesOne object value (Ok x) old now = now ≡ writes_after old object (value ∷ [])
WritesOne object value (Err e) old now = IsDueOrFault (due_of (λ event. None) (event_at old object)) e × (now ≡ old)

-- several writes, of which refused ones are passed over, and then a read: the read is of the count before and the sum
-- of the accepted writes. A fault ends it, and leaves what the writes before it made
abbrev pub WritesAllAndReads : ℕ → List ℕ → Result ℕ HostError → HostTable → HostTable → Type 0
WritesAllAndReads object values (Ok read) old now =
    MatchOption (event_at old object) ⊥
    (λ event. ReadsSum object (event.count + accepted_sum event values) read event old now)
WritesAllAndReads object values (Err e) old now =
    MatchOption (event_at old object) (IsDueOrFault (Some EBADF) e × (now ≡ old))
    (λ event. IsDueOrFault (read_refusal (after_writes event values)) e
    × ((made : ℕ) × (now ≡ writes_after old object (take made values))))
