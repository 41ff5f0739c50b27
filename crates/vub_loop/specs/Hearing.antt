-- The call of the device that a worker makes, and what becomes of the device.
use Rattle.std.specs.Prelude.{◌≡◌, ℕ, Bool, true, false, List, [], Result, IfOk, OnErr}
use Rattle.vub_base.specs.Causes.{Rose}
use Rattle.vub_base.specs.Told.{Told}
use Rattle.vub_proto.specs.declared.device_said.DeviceSaid.{DeviceSaid}
use Rattle.vub_model.specs.declared.cause.VringEpollError.{VringEpollError}
use Rattle.vub_model.specs.declared.phase.Phase.{Phase}
use Rattle.vub_model.specs.declared.play.Play.TheVariants as play
use Rattle.vub_model.specs.DeviceCalls.{Call, Telling, heard_in, moved_by}
use Rattle.vub_model.specs.DeviceCalls as device_calls
use Rattle.vub_model.specs.Work.{after_heard}
use Rattle.vub_vring.specs.Calls.{IsCounted}
use Rattle.vub_vring.specs.PartsState.{PartsState}
use Rattle.vub_loop.specs.declared.turned.Turned.{Turned}
use Rattle.vub_loop.specs.declared.turned.Turned.TheVariants.{Played}
use Rattle.vub_loop.specs.Handler.{phase_of}
use Rattle.vub_loop.specs.Worker.{Worker}

-- the count of the device's refusals rose
abbrev pub HasRefused : {V D : Type 0} → PartsState V D → PartsState V D → Type 0
HasRefused old new = Rose old.refusals new.refusals

-- where the device tells its value, it told the outcomes of these calls, and its value is moved by them
abbrev pub CallsBy : {V D : Type 0} → Telling D → List Call → PartsState V D → PartsState V D → Type 0
CallsBy t calls old new = Told old.device new.device (λ d e. device_calls.Tells t d calls × (e ≡ moved_by t d calls))

-- the device has handled the event that the worker heard, or refused it, and this is the outcome
pub record HandledBy {V D : Type 0} (t : Telling D) (said : DeviceSaid) (before now : Worker)
    (old new : PartsState V D) : Type 0 where
  pub phase : phase_of now ≡ after_heard said
  pub told : CallsBy t (heard_in before.opened.worker (phase_of before) (play.Hear said)) old new
  pub counted : IsCounted old.refusals new.refusals said

-- It has an outcome where the Hear was made; where it was not, the device is as it was.
abbrev pub HearsDevice : {V D : Type 0} → Telling D → Bool → Worker → Worker → PartsState V D → PartsState V D → Type 0
HearsDevice t true before now old new = (said : DeviceSaid) × HandledBy t said before now old new
HearsDevice t false before now old new = (new.device ≡ old.device) × (new.refusals ≡ old.refusals)

-- the call that this turn made, from this phase
abbrev pub calls_in : ℕ → Phase → Turned → List Call
calls_in worker phase (Played l) = heard_in worker phase l
calls_in worker phase t = []

-- what the device said in it is a refusal only where the count of refusals rose
abbrev pub TurnCounted : ℕ → ℕ → Turned → Type 0
TurnCounted before now (Played (play.Hear said)) = IsCounted before now said
TurnCounted before now t = Unit {0}

-- What a turn leaves of the device: it is called by a Hear alone, and want of memory leaves it as it was.
pub record TurnsDevice {V D : Type 0} (t : Telling D) (before : Worker) (old new : PartsState V D)
    (result : Result Turned VringEpollError) : Type 0 where
  pub told : IfOk result (λ turned. CallsBy t (calls_in before.opened.worker (phase_of before) turned) old new)
  pub counted : IfOk result (λ turned. TurnCounted old.refusals new.refusals turned)
  pub err : OnErr result (new.device ≡ old.device)
