-- What one small step says of its parts, and what it makes of the rest of its plan: its row; or a fault of the host,
-- at which nothing changes and the request is refused.
use Rattle.std.specs.Prelude.{◌≡◌, ◌⊎◌, Bool, true, false, List, [], ◌∷◌, Result, IfOk, OnErr}
use Rattle.vub_base.specs.Causes.{Rose}
use Rattle.vub_base.specs.Told.{Told}
use Rattle.vub_event.specs.HostTable.{HostTable, has_event}
use Rattle.vub_event.specs.HostCalls.{has_both}
use Rattle.vub_event.specs.declared.error.HostError.TheVariants as host_error
use Rattle.vub_proto.specs.declared.answer.Answer.{Answer}
use Rattle.vub_proto.specs.declared.answer.Answer.TheVariants as answer
use Rattle.vub_proto.specs.declared.answer.Cause.TheVariants as cause
use Rattle.vub_proto.specs.declared.answer.ListenerError.TheVariants as listener_error
use Rattle.vub_proto.specs.declared.answer.VhostUserError.TheVariants as error
use Rattle.vub_proto.specs.declared.device_said.DeviceSaid.{DeviceSaid}
use Rattle.vub_proto.specs.declared.device_said.DeviceSaid.TheVariants as outcome
use Rattle.vub_model.specs.declared.small.Small.{Small}
use Rattle.vub_model.specs.declared.small.Small.TheVariants.{Claim, Release, Add, Delete, Listen}
use Rattle.vub_model.specs.declared.small.Small.TheVariants.{Unlisten, Bell, Device}
use Rattle.vub_model.specs.Control.{small_after, waits_now, rest_after, MaySay}
use Rattle.vub_model.specs.DeviceCalls.{Call, Telling, is_refused, moved_by}
use Rattle.vub_model.specs.DeviceCalls as device_calls
use Rattle.vub_model.specs.Plans.{Plan}
use Rattle.vub_model.specs.Shared.{Shared}
use Rattle.vub_model.specs.Wiring.{Wiring, opened_at}
use Rattle.vub_ring.specs.declared.ops.TableRingSaid.{TableRingSaid}
use Rattle.vub_ring.specs.declared.ops.TableRingSaid.TheVariants as table_ring_said
use Rattle.vub_vring.specs.declared.ops.HostSaid.{HostSaid}
use Rattle.vub_vring.specs.declared.ops.HostSaid.TheVariants as said
use Rattle.vub_vring.specs.declared.ops.LogSaid.{LogSaid}
use Rattle.vub_vring.specs.declared.ops.LogSaid.TheVariants as log_said
use Rattle.vub_vring.specs.declared.ops.TableSaid.{TableSaid}
use Rattle.vub_vring.specs.declared.ops.TableSaid.TheVariants as change
use Rattle.vub_vring.specs.Calls.{IsCounted}
use Rattle.vub_vring.specs.PartsState.{PartsState, HasFailed, Tells, Lasts}
use Rattle.vub_plan.specs.declared.half.Turn.{Turn}
use Rattle.vub_plan.specs.declared.half.Turn.TheVariants as turn
use Rattle.vub_plan.specs.Halves.{turned}
use Rattle.vub_loop.specs.Faults.{RowOrFault}
use Rattle.vub_handler.specs.declared.acted.Acted.{Acted}
use Rattle.vub_handler.specs.declared.acted.Acted.TheVariants.{Waits, Made}

-- What the refusal of a call makes of the plan. A cause that no step names is passed over.

abbrev pub claim_turn : HostSaid → Turn
claim_turn (said.Refused host_error.Held) = turn.Instead (answer.Failed error.InvalidParam)
claim_turn s = turn.Goes

abbrev pub add_turn : HostSaid → Turn
add_turn (said.Refused host_error.EEXIST) = turn.Skips
add_turn s = turn.Goes

abbrev pub listen_turn : HostSaid → Turn
listen_turn (said.Refused host_error.EEXIST) = turn.Instead (answer.Listener listener_error.AlreadyExists)
listen_turn s = turn.Goes

abbrev pub unlisten_turn : HostSaid → Turn
unlisten_turn (said.Refused host_error.ENOENT) = turn.Instead (answer.Listener listener_error.NotFound)
unlisten_turn s = turn.Goes

abbrev pub info_turn : TableRingSaid → Turn
info_turn table_ring_said.Outside = turn.Tells (answer.Failed error.BackendInternalError)
info_turn s = turn.Goes

abbrev pub table_turn : TableSaid → Turn
table_turn (change.Regions regions) = turn.Goes
table_turn (change.Memory e) = turn.Instead (answer.Failed (error.ReqHandlerError (cause.Memory e)))

abbrev pub log_turn : LogSaid → Turn
log_turn log_said.Done = turn.Goes
log_turn (log_said.Log e) = turn.Instead (answer.Failed (error.ReqHandlerError (cause.Log e)))

abbrev pub device_turn : DeviceSaid → Turn
device_turn outcome.Done = turn.Goes
device_turn (outcome.Content bytes) = turn.Tells (answer.Content bytes)
device_turn (outcome.Object object) = turn.Tells (answer.Object object)
device_turn (outcome.Number n) = turn.Tells (answer.Number n)
device_turn (outcome.Refused n) = turn.Instead (answer.Failed (error.ReqHandlerError (cause.Device n)))

-- the request is refused since the host failed
abbrev pub host_failed : Turn
host_failed = turn.Instead (answer.Failed (error.ReqHandlerError cause.Host))

-- the events and lists that a step names are there
abbrev pub IsNamed : Wiring → HostTable → Small → Type 0
IsNamed g t (Claim object queue) = has_event t object ≡ true
IsNamed g t (Add worker object token) = has_event t object ≡ true
IsNamed g t (Delete worker object) = has_event t object ≡ true
IsNamed g t (Listen worker object token) = has_both t (opened_at g worker).list object ≡ true
IsNamed g t (Unlisten worker object above) = has_both t (opened_at g worker).list object ≡ true
IsNamed g t s = Unit {0}

-- the step was played: what it leaves, and what it makes of the rest of its plan
pub record IsRowOf {V : Type 0} (g : Wiring) (s : Small) (said : DeviceSaid) (t : Turn) (old new : Shared V)
    : Type 0 where
  pub free : waits_now old s ≡ false
  pub says : MaySay s said
  pub shared : new ≡ small_after g old s
  pub rest : (p : Plan) → turned t p ≡ rest_after g old s said p

-- the steps that call the host
abbrev pub calls_host : Small → Bool
calls_host (Claim object queue) = true
calls_host (Release object) = true
calls_host (Add worker object token) = true
calls_host (Delete worker object) = true
calls_host (Listen worker object token) = true
calls_host (Unlisten worker object above) = true
calls_host (Bell object) = true
calls_host s = false

-- the host failed at it
abbrev pub IsFaultOf : {V : Type 0} → Small → Turn → Shared V → Shared V → Type 0
IsFaultOf s t old new = (calls_host s ≡ true) × (t ≡ host_failed) × (new ≡ old)

-- a step that names what is there is its row, or the host failed at it
abbrev pub IsRow : {V : Type 0} → Type 0 → Type 0 → Wiring → Small → DeviceSaid → Turn → Shared V → Shared V → Type 0
IsRow Sound Rise g s said t old new =
    IsNamed g old.table s → RowOrFault Sound Rise (IsRowOf g s said t old new) (IsFaultOf s t old new)

abbrev pub RowBy : {V D : Type 0} → Wiring → Small → DeviceSaid → Turn → PartsState V D → PartsState V D → Type 0
RowBy g s said t old new = Tells old new (IsRow old.NeverFails (HasFailed old new) g s said t)

-- the count of the device's refusals rose
abbrev pub HasRefused : {V D : Type 0} → PartsState V D → PartsState V D → Type 0
HasRefused old new = Rose old.refusals new.refusals

-- told or not, host and device are named as the cause of a refusal only where their counts rose
abbrev pub IsCausedAnswer : Type 0 → Type 0 → Answer → Type 0
IsCausedAnswer Failed Refused (answer.Failed (error.ReqHandlerError cause.Host)) = Failed
IsCausedAnswer Failed Refused (answer.Failed (error.ReqHandlerError (cause.Device n))) = Refused
IsCausedAnswer Failed Refused a = Unit {0}

abbrev pub IsCaused : Type 0 → Type 0 → Turn → Type 0
IsCaused Failed Refused (turn.Instead a) = IsCausedAnswer Failed Refused a
IsCaused Failed Refused (turn.Tells a) = IsCausedAnswer Failed Refused a
IsCaused Failed Refused t = Unit {0}

-- What a step that asks no device leaves. Its only error is want of memory, which leaves what is shared.
pub record PlainFrame {V D T E : Type 0} (old new : PartsState V D) (result : Result T E) : Type 0 where
  pub device : new.device ≡ old.device
  pub refusals : new.refusals ≡ old.refusals
  pub lasts : Lasts old new
  pub err : OnErr result (new.shared ≡ old.shared)

-- a step that asks no device and does not wait: its row, or a fault of the host
abbrev pub TurnsBy : {V D E : Type 0} → Wiring → Small → Result Turn E → PartsState V D → PartsState V D → Type 0
TurnsBy g s result old new = IfOk result (λ t. RowBy g s outcome.Done t old new)

-- where what is shared is told, what a call says, and what is shared before and after, are in this relation
abbrev pub TellsOf : {V D T E : Type 0} → Result T E → PartsState V D → PartsState V D
    → (T → Shared V → Shared V → Type 0) → Type 0
TellsOf result old new R = IfOk result (λ said. Tells old new (R said))

abbrev pub CausedBy : {V D E : Type 0} → Result Turn E → PartsState V D → PartsState V D → Type 0
CausedBy result old new = IfOk result (IsCaused (HasFailed old new) (HasRefused old new))

-- the call of the device that a step makes
abbrev pub called : Small → DeviceSaid → List Call
called (Device op) said = record { op = op; outcome = said } ∷ []
called s said = []

-- where the device tells its value, it told the outcomes of these calls, and its value is moved by them
abbrev pub CallsBy : {V D : Type 0} → Telling D → List Call → PartsState V D → PartsState V D → Type 0
CallsBy t calls old new = Told old.device new.device (λ d e. device_calls.Tells t d calls × (e ≡ moved_by t d calls))

-- A step was made, and this is what the device said in it.
pub record IsMade {V D : Type 0} (t : Telling D) (g : Wiring) (s : Small) (said : DeviceSaid) (made : Turn)
    (refused : Bool) (old new : PartsState V D) : Type 0 where
  pub row : RowBy g s said made old new
  pub refusal : refused ≡ is_refused said
  pub device : CallsBy t (called s said) old new
  pub counted : IsCounted old.refusals new.refusals said
  pub caused : IsCaused (HasFailed old new) (HasRefused old new) made

-- A step that has to wait changes nothing.
pub record IsStill {V D : Type 0} (s : Small) (old new : PartsState V D) : Type 0 where
  pub waits : Tells old new (λ a b. (waits_now a s ≡ true) × (b ≡ a))
  pub device : new.device ≡ old.device
  pub refusals : new.refusals ≡ old.refusals

-- a step was made, or has to wait
abbrev pub Acts : {V D : Type 0} → Telling D → Wiring → Small → Acted → PartsState V D → PartsState V D → Type 0
Acts t g s Waits old new = IsStill s old new
Acts t g s (Made made refused) old new = (said : DeviceSaid) × IsMade t g s said made refused old new

abbrev pub ActsBy : {V D E : Type 0} → Telling D → Wiring → Small → Result Acted E → PartsState V D → PartsState V D
    → Type 0
ActsBy t g s result old new = IfOk result (λ acted. Acts t g s acted old new)

-- What a step leaves, told or not. Its only error is want of memory, which leaves what is shared and the device.
pub record ActFrame {V D T E : Type 0} (old new : PartsState V D) (result : Result T E) : Type 0 where
  pub lasts : Lasts old new
  pub shared : OnErr result (new.shared ≡ old.shared)
  pub device : OnErr result (new.device ≡ old.device)
