-- A worker that is opened: what is held with its interest list and its bell, and why it can't be opened.
use Rattle.std.specs.Prelude.{◌≡◌, ◌⊎◌, ℕ, ◌≤◌, true, if◌then◌else◌, [], ◌∷◌, ◌++◌, length, slice_index_or, Option}
use Rattle.std.specs.Prelude.{Some, None, is_none, Result, IfErr}
use Rattle.vub_base.specs.Causes.{Rose}
use Rattle.vub_base.specs.Told.{Told}
use Rattle.vub_event.specs.declared.member.Member.{Member}
use Rattle.vub_event.specs.HostTable.{HostTable, has_event}
use Rattle.vub_event.specs.HostCalls.{new_event, create_list_after, create_event_after, add_refusal, add_after}
use Rattle.vub_model.specs.declared.cause.VringEpollError.{VringEpollError}
use Rattle.vub_model.specs.declared.cause.VringEpollError.TheVariants.{EpollCreateFd, RegisterExitEvent}
use Rattle.vub_model.specs.declared.cause.VringEpollError.TheVariants.{NewEventConsumerNotifier}
use Rattle.vub_model.specs.declared.cause.VringEpollError.TheVariants.{RegisterVringEnabledEvent, OutOfMemory}
use Rattle.vub_model.specs.declared.constants.Constants.{Constants}
use Rattle.vub_model.specs.declared.wiring.Opened.{Opened}
use Rattle.vub_model.specs.Shared.{Shared}
use Rattle.vub_model.specs.Opening.{listed, opening_members}
use Rattle.vub_ring.specs.declared.ops.PartsError.{PartsError}
use Rattle.vub_ring.specs.declared.ops.PartsError.TheVariants as parts_error
use Rattle.vub_vring.specs.PartsState.{PartsState}
use Rattle.vub_vring.specs.declared.ops.HostSaid.{HostSaid}
use Rattle.vub_vring.specs.declared.ops.HostSaid.TheVariants.{Number}

-- the exit object of a worker, if it has one
abbrev pub exit_in : Constants → ℕ → Option ℕ
exit_in constants worker = slice_index_or constants.exits worker None

-- the exit object is there
abbrev pub HasExit : HostTable → Option ℕ → Type 0
HasExit table None = Unit {0}
HasExit table (Some exit) = has_event table exit ≡ true

-- The table with one worker more: a new list, whose members are the exit object, if there is one, and a new event, the
-- bell, both under the number of queues.
abbrev pub with_worker : HostTable → ℕ → Opened → HostTable
with_worker table queues w =
    record { objects = table.objects ++ Some (new_event 0) ∷ []; lists = table.lists ++ opening_members queues w ∷ [] }

abbrev pub Opens : {V : Type 0} → ℕ → Opened → Shared V → Shared V → Type 0
Opens queues w old new =
    HasExit old.table w.exit → (w.list ≡ length old.table.lists) × (w.bell ≡ length old.table.objects)
    × (new ≡ record old { table = with_worker old.table queues w })

-- the worker of this number, by the device's constants, where what is held is told
abbrev pub OpensFor : {V : Type 0} → Constants → ℕ → Opened → Option (Shared V) → Option (Shared V) → Type 0
OpensFor constants worker w old new = (w.exit ≡ exit_in constants worker) × Told old new (Opens constants.queues w)

-- The steps to it

-- the number that the host gave; where it gave none, one that no object and no list has
abbrev pub number_of : HostSaid → ℕ
number_of (Number n) = n
number_of said = 4294967295

abbrev pub MakesList : {V : Type 0} → ℕ → Shared V → Shared V → Type 0
MakesList n old new = (n ≡ length old.table.lists) × (new ≡ record old { table = create_list_after old.table })

abbrev pub MakesBell : {V : Type 0} → ℕ → Shared V → Shared V → Type 0
MakesBell n old new = (n ≡ length old.table.objects) × (new ≡ record old { table = create_event_after old.table 0x800 })

-- a member is added, unless it is refused
abbrev pub joined_table : HostTable → ℕ → Member → HostTable
joined_table table list m = if is_none (add_refusal table list m) then add_after table list m else table

abbrev pub Joins : {V : Type 0} → ℕ → Member → Shared V → Shared V → Type 0
Joins list m old new = new ≡ record old { table = joined_table old.table list m }

-- the exit object, if there is one, under this token
abbrev pub JoinsExit : {V : Type 0} → ℕ → Option ℕ → ℕ → Shared V → Shared V → Type 0
JoinsExit list None token old new = new ≡ old
JoinsExit list (Some exit) token old new = Joins list (listed exit token) old new

-- Why a worker can't be opened: a fault of the host, named by the call that failed, or want of memory.
abbrev pub IsOpeningFault : ℕ → ℕ → VringEpollError → Type 0
IsOpeningFault before now EpollCreateFd = Rose before now
IsOpeningFault before now RegisterExitEvent = Rose before now
IsOpeningFault before now NewEventConsumerNotifier = Rose before now
IsOpeningFault before now RegisterVringEnabledEvent = Rose before now
IsOpeningFault before now OutOfMemory = Unit {0}
IsOpeningFault before now e = ⊥

-- the count of the host's faults, over a host that may be sound
pub record OpensBy {T : Type 0} (before now : ℕ) (Sound StillSound : Type 0) (result : Result T VringEpollError)
    : Type 0 where
  pub later : before ≤ now
  pub cause : IfErr result (IsOpeningFault before now)
  pub still : Sound → StillSound
  pub sound : Sound → IfErr result (λ e. e ≡ OutOfMemory)

-- what opening a worker, or a step to it, leaves of the parts
pub record KeepsOpening {V D T : Type 0} (old new : PartsState V D) (result : Result T VringEpollError) : Type 0 where
  pub faults : OpensBy old.faults new.faults old.NeverFails new.NeverFails result
  pub device : new.device ≡ old.device
  pub refusals : new.refusals ≡ old.refusals
  pub loan : new.loan ≡ old.loan
  pub constants : new.constants ≡ old.constants

-- the error for a call of the parts that was not made
abbrev pub error_of : PartsError → VringEpollError → VringEpollError
error_of parts_error.Fault fault = fault
error_of parts_error.OutOfMemory fault = OutOfMemory

-- What a worker that can't be opened leaves: what was made before stays.

-- the table once the list is made, and the exit object, if there is one, is in it
abbrev pub with_exit : HostTable → ℕ → Option ℕ → HostTable
with_exit table queues None = create_list_after table
with_exit table queues (Some exit) = joined_table (create_list_after table) (length table.lists) (listed exit queues)

-- the same once the bell is made, which is in no list yet
abbrev pub with_bell : HostTable → ℕ → Option ℕ → HostTable
with_bell table queues exit = create_event_after (with_exit table queues exit) 0x800

-- the table that each error leaves; want of memory stops any step
abbrev pub Leaves : ℕ → Option ℕ → VringEpollError → HostTable → HostTable → Type 0
Leaves queues exit EpollCreateFd old new = new ≡ old
Leaves queues exit RegisterExitEvent old new = new ≡ create_list_after old
Leaves queues exit NewEventConsumerNotifier old new = new ≡ with_exit old queues exit
Leaves queues exit RegisterVringEnabledEvent old new = new ≡ with_bell old queues exit
Leaves queues exit OutOfMemory old new =
    (new ≡ old) ⊎ ((new ≡ create_list_after old)
    ⊎ ((new ≡ with_exit old queues exit) ⊎ (new ≡ with_bell old queues exit)))
Leaves queues exit e old new = ⊥

-- nothing else changes
abbrev pub LeavesMade : {V : Type 0} → ℕ → Option ℕ → VringEpollError → Shared V → Shared V → Type 0
LeavesMade queues exit e old new = Leaves queues exit e old.table new.table × (new ≡ record old { table = new.table })

-- a step that is not made answers its own error or want of memory, and changes nothing
abbrev pub Stops : {A : Type 0} → VringEpollError → A → A → VringEpollError → Type 0
Stops fault old new e = ((e ≡ fault) ⊎ (e ≡ OutOfMemory)) × (new ≡ old)
