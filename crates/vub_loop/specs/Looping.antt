-- The turns of a worker that a looped call takes, one after the other: what became of the worker, of what is shared and
-- of the device in them.
use Rattle.std.specs.Prelude.{◌≡◌, ◌⊎◌, ℕ, Bool, true, false, List, [], ◌∷◌, ◌++◌, Option, Some, None}
use Rattle.std.specs.Prelude.{is_none, Result, IsOk, IfOk}
use Rattle.vub_model.specs.declared.cause.StopCause.{StopCause}
use Rattle.vub_model.specs.declared.cause.StopCause.TheVariants.{Fault}
use Rattle.vub_model.specs.declared.cause.VringEpollError.{VringEpollError}
use Rattle.vub_model.specs.declared.cause.VringEpollError.TheVariants.{OutOfMemory}
use Rattle.vub_model.specs.declared.phase.Phase.{Phase}
use Rattle.vub_model.specs.declared.phase.Phase.TheVariants.{Idle, Stopped}
use Rattle.vub_model.specs.DeviceCalls.{Call, Telling}
use Rattle.vub_model.specs.Shared.{Shared}
use Rattle.vub_model.specs.Service.{Meaning}
use Rattle.vub_model.specs.Wiring.{Wiring}
use Rattle.vub_vring.specs.PartsState.{PartsState, HasFailed, Tells, Lasts, IsUntouched}
use Rattle.vub_loop.specs.declared.turned.Turned.{Turned}
use Rattle.vub_loop.specs.Faults.{TurnSteps, StopsOnlyBy}
use Rattle.vub_loop.specs.Handler.{IsHandler, SameWorker, phase_of}
use Rattle.vub_loop.specs.Hearing.{HasRefused, CallsBy, calls_in}
use Rattle.vub_loop.specs.Phases.{TurnedIn, has_queues}
use Rattle.vub_loop.specs.Stepping.{LeastTurned}
use Rattle.vub_loop.specs.Worker.{Worker}

-- one turn: what it came to, and where the worker stood before and after it
pub record LoopTurn : Type 0 where
  pub from : Phase
  pub turn : Turned
  pub to : Phase

-- The turns lead from one phase to another, told or not. Each was made in a phase of this kind, and each phase leads to
-- the next turn.
abbrev pub LeadOn : (Phase → Bool) → List LoopTurn → Phase → Phase → Type 0
LeadOn is_kind [] before now = now ≡ before
LeadOn is_kind (t ∷ ts) before now =
    (t.from ≡ before) × (is_kind t.from ≡ true) × TurnedIn t.turn t.from t.to × LeadOn is_kind ts t.to now

-- Where what is shared is told, each turn is its row of the machine, or what a fault of the host leaves of it, and a
-- poll takes the ready member with the least number.
abbrev pub AreTurns : {V : Type 0} → Type 0 → Type 0 → Meaning V → Wiring → ℕ → List LoopTurn → Shared V → Shared V
    → Type 0
AreTurns Sound Rise m g worker [] old new = new ≡ old
AreTurns {V} Sound Rise m g worker (t ∷ ts) old new =
    (mid : Shared V) × TurnSteps Sound Rise m g worker t.turn t.from t.to old mid × LeastTurned g worker old t.turn
    × AreTurns Sound Rise m g worker ts mid new

-- the calls of the device in these turns
abbrev pub calls_over : ℕ → List LoopTurn → List Call
calls_over worker [] = []
calls_over worker (t ∷ ts) = calls_in worker t.from t.turn ++ calls_over worker ts

-- These turns were taken, one after the other, and nothing else was done: each in a phase of this kind. Where the
-- device tells its value, it told the outcomes of their calls and is moved by them. The worker stays the one that it
-- is, and only faults and refusals stop it with the errors that are theirs.
pub record TakesTurns {V D : Type 0} (is_kind : Phase → Bool) (m : Meaning V) (t : Telling D) (before now : Worker)
    (old new : PartsState V D) : Type 0 where
  pub turns : List LoopTurn
  pub phases : LeadOn is_kind turns (phase_of before) (phase_of now)
  pub told : (g : Wiring) (worker : ℕ) → IsHandler g worker before
      → Tells old new (AreTurns old.NeverFails (HasFailed old new) m g worker turns)
  pub device : CallsBy t (calls_over before.opened.worker turns) old new
  pub same : SameWorker before now
  pub stops : StopsOnlyBy (phase_of before) (phase_of now) (HasFailed old new) (HasRefused old new)
  pub lasts : Lasts old new

-- the same from any phase that is of this kind
abbrev pub TakesTurn : {V D : Type 0} → Meaning V → Telling D → Worker → Worker → PartsState V D → PartsState V D
    → Type 0
TakesTurn m t before now old new =
    (is_kind : Phase → Bool) → is_kind (phase_of before) ≡ true → TakesTurns is_kind m t before now old new

-- why the worker has stopped, if it has
abbrev pub stop_in : Phase → Option StopCause
stop_in (Stopped cause) = Some cause
stop_in phase = None

abbrev pub is_going : Phase → Bool
is_going phase = is_none (stop_in phase)

-- The error of a looped call: want of memory, which a step met; or the error that has stopped the worker.
abbrev pub IsLoopError : Phase → VringEpollError → Type 0
IsLoopError phase e = (e ≡ OutOfMemory) ⊎ (phase ≡ Stopped (Fault e))

-- A worker that has queues to serve is idle once they are served.
abbrev pub ServesAll : {T : Type 0} → Worker → Worker → Result T VringEpollError → Type 0
ServesAll before now result = has_queues (phase_of before) ≡ true → IfOk result (λ done. phase_of now ≡ Idle)

-- For one that has none, nothing is done.
abbrev pub ServesNone : {V D T : Type 0} → Worker → Worker → PartsState V D → PartsState V D → Result T VringEpollError
    → Type 0
ServesNone before now old new result =
    has_queues (phase_of before) ≡ false → IsOk result × (now ≡ before) × IsUntouched old new
