-- What a step of a worker is where the host fails. A worker that polls, or that reads a counter, stops with the error
-- of that call (`VringEpollError` of the Rust crate `vhost-user-backend`), and nothing else changes; such a poll is no
-- step of the machine. A signal that tells of a used entry is passed over.
use Rattle.std.specs.Prelude.{◌≡◌, ◌⊎◌, ℕ, Bool, true, ◌==◌, if◌then◌else◌, nat_lt, length, Ok}
use Rattle.vub_model.specs.declared.cause.StopCause.TheVariants.{Fault}
use Rattle.vub_model.specs.declared.cause.Why.TheVariants as why
use Rattle.vub_model.specs.declared.cause.VringEpollError.{VringEpollError}
use Rattle.vub_model.specs.declared.cause.VringEpollError.TheVariants.{EpollWait, HandleEventReadKick}
use Rattle.vub_model.specs.declared.cause.VringEpollError.TheVariants.{HandleVringEnabledEventConsume}
use Rattle.vub_model.specs.declared.cause.VringEpollError.TheVariants.{HandleEventBackendHandling}
use Rattle.vub_model.specs.declared.phase.Phase.{Phase}
use Rattle.vub_model.specs.declared.phase.Phase.TheVariants.{Idle, Polled, Served, Stopped}
use Rattle.vub_model.specs.declared.play.Play.{Play}
use Rattle.vub_model.specs.declared.play.Play.TheVariants as play
use Rattle.vub_model.specs.Shared.{Shared}
use Rattle.vub_model.specs.Service.{Meaning}
use Rattle.vub_model.specs.Wiring.{Wiring, queues_of}
use Rattle.vub_model.specs.Work.{Local, put_said, used, serving}
use Rattle.vub_loop.specs.declared.turned.Turned.{Turned}
use Rattle.vub_loop.specs.declared.turned.Turned.TheVariants as turned
use Rattle.vub_loop.specs.Plays.{Plays, Polls, Turns}

-- The row holds; or the count of the host's faults rose, and this is what a fault leaves. Where the host has no call to
-- fail, `Sound`, the row holds.
pub record RowOrFault (Sound Rise Row AfterFault : Type 0) : Type 0 where
  pub row : Row ⊎ (Rise × AfterFault)
  pub sound : Sound → Row

-- A counter was read, which leaves this; or it could not be read, and the worker stops with this error.
abbrev pub Reads : {V : Type 0} → Type 0 → Type 0 → Local V → VringEpollError → Phase → Shared V → Shared V → Type 0
Reads Sound Rise local error phase old new =
    RowOrFault Sound Rise (record { shared = new; phase = phase } ≡ local)
    ((phase ≡ Stopped (Fault error)) × (new ≡ old))

-- the error of a counter that can't be read: of a kick or a listener, or of the bell
abbrev pub read_error : Wiring → ℕ → ℕ → VringEpollError
read_error g worker token =
    if nat_lt token (length (queues_of g worker)) then HandleEventReadKick
    else if token == g.queues then HandleVringEnabledEventConsume
    else HandleEventReadKick

-- what a step leaves at which the host failed
abbrev pub Faulted : {V : Type 0} → Wiring → ℕ → Play → Phase → Phase → Shared V → Shared V → Type 0
Faulted g worker play.Event (Polled object token) now old new =
    (now ≡ Stopped (Fault (read_error g worker token))) × (new ≡ old)
Faulted g worker play.Put (Served e reply queues) now old new =
    (put_said old e reply ≡ Ok true) × (now ≡ serving queues) × (new ≡ used old e reply)
Faulted g worker l phase now old new = ⊥

-- what a poll leaves at which the host failed
abbrev pub PollFaulted : {V : Type 0} → Phase → Phase → Shared V → Shared V → Type 0
PollFaulted Idle now old new = (now ≡ Stopped (Fault EpollWait)) × (new ≡ old)
PollFaulted phase now old new = ⊥

-- A step, its row or a fault of the host. A step in which the worker stops was played.
abbrev pub Steps : {V : Type 0} → Type 0 → Type 0 → Meaning V → Wiring → ℕ → Play → Bool → Phase → Phase → Shared V
    → Shared V → Type 0
Steps Sound Rise m g worker l played before now old new =
    RowOrFault Sound Rise (Plays m g worker l played before now old new)
    ((played ≡ true) × Faulted g worker l before now old new)

-- the same of a poll
abbrev pub PollSteps : {V : Type 0} → Type 0 → Type 0 → Meaning V → Wiring → ℕ → Bool → Phase → Phase → Shared V
    → Shared V → Type 0
PollSteps Sound Rise m g worker played before now old new =
    RowOrFault Sound Rise (Polls m g worker played before now old new)
    ((played ≡ true) × PollFaulted before now old new)

-- what a turn leaves at which the host failed; it does not pass there
abbrev pub TurnFaulted : {V : Type 0} → Wiring → ℕ → Turned → Phase → Phase → Shared V → Shared V → Type 0
TurnFaulted g worker turned.Pass before now old new = ⊥
TurnFaulted g worker (turned.Played l) before now old new = Faulted g worker l before now old new
TurnFaulted g worker turned.Failed before now old new = PollFaulted before now old new

-- A turn, its row or a fault of the host. So it passes only where the worker has no step, and is Failed only where the
-- count of the host's faults rose.
abbrev pub TurnSteps : {V : Type 0} → Type 0 → Type 0 → Meaning V → Wiring → ℕ → Turned → Phase → Phase → Shared V
    → Shared V → Type 0
TurnSteps Sound Rise m g worker t before now old new =
    RowOrFault Sound Rise (Turns m g worker t before now old new) (TurnFaulted g worker t before now old new)

-- the worker was stopped by a fault of the host
abbrev pub IsHostStop : Phase → Type 0
IsHostStop (Stopped (Fault EpollWait)) = Unit {0}
IsHostStop (Stopped (Fault HandleEventReadKick)) = Unit {0}
IsHostStop (Stopped (Fault HandleVringEnabledEventConsume)) = Unit {0}
IsHostStop phase = ⊥

-- the worker was stopped by a refusal of the device
abbrev pub IsDeviceStop : Phase → Type 0
IsDeviceStop (Stopped (Fault (HandleEventBackendHandling (why.Device n)))) = Unit {0}
IsDeviceStop phase = ⊥

-- A fault of the host stops a worker only where the count of its faults rose, and a refusal of the device only where
-- the count of its refusals rose.
pub record StopsOnlyBy (before now : Phase) (HostRose DeviceRose : Type 0) : Type 0 where
  pub host : IsHostStop now → IsHostStop before ⊎ HostRose
  pub device : IsDeviceStop now → IsDeviceStop before ⊎ DeviceRose
