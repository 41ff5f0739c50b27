-- What a step of a worker says, and what it leaves of the worker and of its parts.
use Rattle.std.specs.Prelude.{◌≡◌, ℕ, Bool, true, None, Result, IfOk, IsOk, IfErr, OnErr}
use Rattle.vub_proto.specs.declared.device_said.DeviceSaid.{DeviceSaid}
use Rattle.vub_model.specs.declared.cause.VringEpollError.{VringEpollError}
use Rattle.vub_model.specs.declared.cause.VringEpollError.TheVariants.{OutOfMemory}
use Rattle.vub_model.specs.declared.phase.Phase.{Phase}
use Rattle.vub_model.specs.declared.phase.Phase.TheVariants.{Polled}
use Rattle.vub_model.specs.declared.play.Play.{Play}
use Rattle.vub_model.specs.declared.play.Play.TheVariants as play
use Rattle.vub_model.specs.Shared.{Shared}
use Rattle.vub_model.specs.RunOf.{IsLeastPoll}
use Rattle.vub_model.specs.Service.{Meaning}
use Rattle.vub_model.specs.Wiring.{Wiring}
use Rattle.vub_model.specs.Work.{Local}
use Rattle.vub_vring.specs.PartsState.{PartsState, HasFailed, Tells, Lasts}
use Rattle.vub_loop.specs.declared.polling.Polling.{Polling}
use Rattle.vub_loop.specs.declared.turned.Turned.{Turned}
use Rattle.vub_loop.specs.declared.turned.Turned.TheVariants as turned
use Rattle.vub_loop.specs.Faults.{Reads, Steps, PollSteps, TurnSteps, IsHostStop, IsDeviceStop, StopsOnlyBy}
use Rattle.vub_loop.specs.Handler.{IsHandler, SameWorker, phase_of}
use Rattle.vub_loop.specs.Hearing.{HasRefused}
use Rattle.vub_loop.specs.Plays.{IsStep, Hears}
use Rattle.vub_loop.specs.Polling.{PollingSteps, PollingLeast}
use Rattle.vub_loop.specs.Sound.{IsSound}
use Rattle.vub_loop.specs.Worker.{Worker}

-- what is answered is in this relation, for the wiring and the number by which it is a worker
abbrev pub AsWorker : {A : Type 0} → Worker → Result A VringEpollError → (Wiring → ℕ → A → Type 0) → Type 0
AsWorker h result R = (g : Wiring) (worker : ℕ) → IsHandler g worker h → IfOk result (R g worker)

-- what is answered is in this relation with the phases before and after, told or not
abbrev pub OnPhases : {A : Type 0} → (A → Phase → Phase → Type 0) → Result A VringEpollError → Worker → Worker → Type 0
OnPhases R result before now = IfOk result (λ answer. R answer (phase_of before) (phase_of now))

-- the step of this play, or a fault of the host
abbrev pub StepsBy : {V D : Type 0} → Meaning V → Play → Result Bool VringEpollError → Worker → Worker
    → PartsState V D → PartsState V D → Type 0
StepsBy m l result before now old new =
    AsWorker before result (λ g worker made.
    Tells old new (Steps old.NeverFails (HasFailed old new) m g worker l made (phase_of before) (phase_of now)))

-- the step of a poll, or a fault of the host
abbrev pub PollsBy : {V D : Type 0} → Meaning V → Result Bool VringEpollError → Worker → Worker → PartsState V D
    → PartsState V D → Type 0
PollsBy m result before now old new =
    AsWorker before result (λ g worker made.
    Tells old new (PollSteps old.NeverFails (HasFailed old new) m g worker made (phase_of before) (phase_of now)))

abbrev pub PollingBy : {V D : Type 0} → Meaning V → Result Polling VringEpollError → Worker → Worker → PartsState V D
    → PartsState V D → Type 0
PollingBy m result before now old new =
    AsWorker before result (λ g worker polled.
    Tells old new (PollingSteps old.NeverFails (HasFailed old new) m g worker polled (phase_of before) (phase_of now)))

-- the step of a Hear
abbrev pub HearsBy : {V D : Type 0} → Meaning V → Result Bool VringEpollError → Worker → Worker → PartsState V D
    → PartsState V D → Type 0
HearsBy m result before now old new =
    AsWorker before result (λ g worker made. Tells old new (Hears m g worker made (phase_of before) (phase_of now)))

abbrev pub HearingBy : {V D : Type 0} → Meaning V → Result DeviceSaid VringEpollError → Worker → Worker
    → PartsState V D → PartsState V D → Type 0
HearingBy m result before now old new =
    AsWorker before result (λ g worker said.
    Tells old new (IsStep m g worker (play.Hear said) (phase_of before) (phase_of now)))

-- the step of a turn, none, or a fault of the host
abbrev pub TurnsBy : {V D : Type 0} → Meaning V → Result Turned VringEpollError → Worker → Worker → PartsState V D
    → PartsState V D → Type 0
TurnsBy m result before now old new =
    AsWorker before result (λ g worker t.
    Tells old new (TurnSteps old.NeverFails (HasFailed old new) m g worker t (phase_of before) (phase_of now)))

-- a poll that was made took the ready member with the least number
abbrev pub LeastPolled : {V : Type 0} → Wiring → ℕ → Shared V → Bool → Phase → Type 0
LeastPolled g worker h true (Polled object token) = IsLeastPoll g worker h (play.Poll object)
LeastPolled g worker h made phase = Unit {0}

abbrev pub LeastTurned : {V : Type 0} → Wiring → ℕ → Shared V → Turned → Type 0
LeastTurned g worker h (turned.Played l) = IsLeastPoll g worker h l
LeastTurned g worker h t = Unit {0}

abbrev pub PollsLeastBy : {V D : Type 0} → Result Bool VringEpollError → Worker → Worker → PartsState V D
    → PartsState V D → Type 0
PollsLeastBy result before now old new =
    AsWorker before result (λ g worker made. Tells old new (λ a b. LeastPolled g worker a made (phase_of now)))

abbrev pub PollingLeastBy : {V D : Type 0} → Result Polling VringEpollError → Worker → PartsState V D → PartsState V D
    → Type 0
PollingLeastBy result before old new =
    AsWorker before result (λ g worker polled. Tells old new (λ a b. PollingLeast g worker a polled))

abbrev pub TurnsLeastBy : {V D : Type 0} → Result Turned VringEpollError → Worker → PartsState V D → PartsState V D
    → Type 0
TurnsLeastBy result before old new =
    AsWorker before result (λ g worker t. Tells old new (λ a b. LeastTurned g worker a t))

-- a counter was read, which leaves this; or it could not be read, and the worker stops with this error
abbrev pub ReadsBy : {V D : Type 0} → PartsState V D → PartsState V D → Result Phase VringEpollError
    → (Shared V → Local V) → VringEpollError → Type 0
ReadsBy old new result local error =
    IfOk result (λ phase. Tells old new (λ a b. Reads old.NeverFails (HasFailed old new) (local a) error phase a b))

-- what the worker used in a step that uses no entry
abbrev pub UsesNone : {A : Type 0} → Result A VringEpollError → Worker → Type 0
UsesNone result now = IfOk result (λ answer. now.finished ≡ None)

-- What a turn leaves. The only error is want of memory, which leaves the worker and what is shared as they were. The
-- worker stays the one that it is, and only faults and refusals stop it with the errors that are theirs.
pub record TurnFrame {V D A : Type 0} (before now : Worker) (old new : PartsState V D)
    (result : Result A VringEpollError) : Type 0 where
  pub same : SameWorker before now
  pub error : IfErr result (λ e. e ≡ OutOfMemory)
  pub err : OnErr result (now ≡ before)
  pub shared : OnErr result (new.shared ≡ old.shared)
  pub stops : StopsOnlyBy (phase_of before) (phase_of now) (HasFailed old new) (HasRefused old new)
  pub lasts : Lasts old new

-- the same of a step that calls no device
pub record StepFrame {V D A : Type 0} (before now : Worker) (old new : PartsState V D)
    (result : Result A VringEpollError) : Type 0 where
  pub turn : TurnFrame before now old new result
  pub device : new.device ≡ old.device
  pub refusals : new.refusals ≡ old.refusals

-- the same of one that is never refused
pub record SureFrame {V D A : Type 0} (before now : Worker) (old new : PartsState V D)
    (result : Result A VringEpollError) : Type 0 where
  pub ok : IsOk result
  pub step : StepFrame before now old new result

-- What a Hear leaves. It is never refused, and leaves what is shared.
pub record HearFrame {V D A : Type 0} (before now : Worker) (old new : PartsState V D)
    (result : Result A VringEpollError) : Type 0 where
  pub ok : IsOk result
  pub shared : new.shared ≡ old.shared
  pub turn : TurnFrame before now old new result

-- What a read leaves, which does not change the worker: the phase is not yet that of the worker.
pub record ReadFrame {V D : Type 0} (old new : PartsState V D) (result : Result Phase VringEpollError) : Type 0 where
  pub sound : IfOk result IsSound
  pub fault : IfOk result (λ phase. IsHostStop phase → HasFailed old new)
  pub refused : IfOk result (λ phase. ¬ IsDeviceStop phase)
  pub error : IfErr result (λ e. e ≡ OutOfMemory)
  pub shared : OnErr result (new.shared ≡ old.shared)
  pub device : new.device ≡ old.device
  pub refusals : new.refusals ≡ old.refusals
  pub lasts : Lasts old new
