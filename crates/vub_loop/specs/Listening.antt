-- The calls that add a listener to a worker's interest list, take one off it, and tell the worker to end.
use Rattle.std.specs.Prelude.{◌≡◌, ◌==◌, ◌&&◌, ℕ, Bool, true, false, nat_lt, nat_le, Option, Some, None, Result, Ok}
use Rattle.std.specs.Prelude.{Err, IsErrOf}
use Rattle.vub_proto.specs.declared.answer.ListenerError.{ListenerError}
use Rattle.vub_proto.specs.declared.answer.ListenerError.TheVariants.{EINVAL, AlreadyExists, NotFound}
use Rattle.vub_event.specs.declared.error.HostError.{HostError}
use Rattle.vub_event.specs.declared.error.HostError.TheVariants as host_error
use Rattle.vub_event.specs.declared.event_set.EventSet.{EventSet}
use Rattle.vub_event.specs.HostTable.{HostTable}
use Rattle.vub_event.specs.HostCalls.{listener, listen_refusal, add_after, unlisten_refusal, delete_after}
use Rattle.vub_model.specs.Shared.{Shared, raised_or_none}
use Rattle.vub_ring.specs.declared.ops.PartsError.{PartsError}
use Rattle.vub_ring.specs.declared.ops.PartsError.TheVariants as parts_error
use Rattle.vub_vring.specs.declared.ops.HostSaid.{HostSaid}
use Rattle.vub_vring.specs.declared.ops.HostSaid.TheVariants as said
use Rattle.vub_vring.specs.PartsState.{PartsState, HasFailed, Tells, Lasts}
use Rattle.vub_loop.specs.declared.listening.EpollHandle.{EpollHandle}
use Rattle.vub_loop.specs.declared.listening.ListenerFault.{ListenerFault}
use Rattle.vub_loop.specs.declared.listening.ListenerFault.TheVariants as fault
use Rattle.vub_loop.specs.Faults.{RowOrFault}
use Rattle.vub_loop.specs.Worker.{Worker}

-- the handle of a worker
abbrev pub handle_of : Worker → EpollHandle
handle_of h = record { worker = h.opened.worker; list = h.opened.list; exit = h.opened.exit; queues = h.count }

-- A listener asks for IN alone, under a token above the number of queues and below 2^16.
abbrev pub is_for_listener : ℕ → EventSet → ℕ → Bool
is_for_listener queues set token = nat_lt queues token && nat_le token 65535 && (set.0 == 1)

-- what the host's refusal means: the object is on the list or a queue's kick, it is no listener of the list, or there
-- is no such object or list
abbrev pub listener_error : HostError → ListenerError
listener_error host_error.EEXIST = AlreadyExists
listener_error host_error.ENOENT = NotFound
listener_error e = EINVAL

-- the refusal that is due: EINVAL at arguments that are no listener's, else what the host's means
abbrev pub due_for : Bool → Option HostError → Option ListenerError
due_for false due = Some EINVAL
due_for true None = None
due_for true (Some e) = Some (listener_error e)

-- The call is refused by what is due, or else leaves this table. A fault of the host and want of memory are due by
-- nothing that is shared. Refused, it changes nothing.
abbrev pub MeetsListener : {V T : Type 0} → Option ListenerError → HostTable → Result T ListenerFault → Shared V
    → Shared V → Type 0
MeetsListener due after (Ok x) old new = (due ≡ None) × (new ≡ record old { table = after })
MeetsListener due after (Err (fault.Listener e)) old new = (due ≡ Some e) × (new ≡ old)
MeetsListener due after (Err fault.Host) old new = new ≡ old
MeetsListener due after (Err fault.OutOfMemory) old new = new ≡ old

-- the object becomes a member of the handle's list
abbrev pub Registers : {V T : Type 0} → EpollHandle → ℕ → EventSet → ℕ → Result T ListenerFault → Shared V → Shared V
    → Type 0
Registers w object set token result old new =
    MeetsListener (due_for (is_for_listener w.queues set token) (listen_refusal old.table w.list object))
    (add_after old.table w.list (listener object token)) result old new

-- the object, whatever its token above the number of queues, is no member of the handle's list any more
abbrev pub Unregisters : {V T : Type 0} → EpollHandle → ℕ → EventSet → ℕ → Result T ListenerFault → Shared V → Shared V
    → Type 0
Unregisters w object set token result old new =
    MeetsListener (due_for (is_for_listener w.queues set token) (unlisten_refusal old.table w.list object w.queues))
    (delete_after old.table w.list object) result old new

-- What a call of a listener leaves of the parts, told or not: Host is answered only where the count of the host's
-- faults rose.
pub record ListenFrame {V D T : Type 0} (old new : PartsState V D) (result : Result T ListenerFault) : Type 0 where
  pub cause : IsErrOf result fault.Host → HasFailed old new
  pub sound : old.NeverFails → ¬ (IsErrOf result fault.Host)
  pub device : new.device ≡ old.device
  pub refusals : new.refusals ≡ old.refusals
  pub lasts : Lasts old new

-- the answer, by what the host said
abbrev pub listener_answer : Result HostSaid PartsError → Result (Unit {0}) ListenerFault
listener_answer (Ok (said.Refused e)) = Err (fault.Listener (listener_error e))
listener_answer (Ok s) = Ok tt
listener_answer (Err parts_error.Fault) = Err fault.Host
listener_answer (Err parts_error.OutOfMemory) = Err fault.OutOfMemory

-- 1 is added to the count of the exit object, if there is one, and a full count stays. Where the host fails at it,
-- nothing changes.
abbrev pub SendsExit : {V D : Type 0} → Option ℕ → PartsState V D → PartsState V D → Type 0
SendsExit exit old new =
    Tells old new
    (λ a b. RowOrFault old.NeverFails (HasFailed old new) (b ≡ raised_or_none a exit) (b ≡ a))

-- what telling a worker to end leaves of the parts
pub record ExitFrame {V D : Type 0} (old new : PartsState V D) : Type 0 where
  pub device : new.device ≡ old.device
  pub refusals : new.refusals ≡ old.refusals
  pub lasts : Lasts old new
