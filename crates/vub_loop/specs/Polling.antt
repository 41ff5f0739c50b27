-- What a poll of a worker came to.
use Rattle.std.specs.Prelude.{◌≡◌, ℕ, false}
use Rattle.vub_model.specs.declared.cause.StopCause.TheVariants.{Fault}
use Rattle.vub_model.specs.declared.cause.VringEpollError.TheVariants.{EpollWait}
use Rattle.vub_model.specs.declared.phase.Phase.{Phase}
use Rattle.vub_model.specs.declared.phase.Phase.TheVariants.{Idle, Stopped}
use Rattle.vub_model.specs.declared.play.Play.TheVariants as play
use Rattle.vub_model.specs.RunOf.{IsLeastPoll}
use Rattle.vub_model.specs.Shared.{Shared}
use Rattle.vub_model.specs.Service.{Meaning}
use Rattle.vub_model.specs.Wiring.{Wiring}
use Rattle.vub_loop.specs.declared.polling.Polling.{Polling}
use Rattle.vub_loop.specs.declared.polling.Polling.TheVariants.{Nothing, Member, Failed}
use Rattle.vub_loop.specs.Faults.{PollFaulted}
use Rattle.vub_loop.specs.Phases.{HasPolled}
use Rattle.vub_loop.specs.Plays.{IsStep, Polls}

-- no member may be polled; this member was polled; or the host failed
abbrev pub PollingSteps : {V : Type 0} → Type 0 → Type 0 → Meaning V → Wiring → ℕ → Polling → Phase → Phase → Shared V
    → Shared V → Type 0
PollingSteps Sound Rise m g worker Nothing before now old new = Polls m g worker false before now old new
PollingSteps Sound Rise m g worker (Member object) before now old new =
    IsStep m g worker (play.Poll object) before now old new
PollingSteps Sound Rise m g worker Failed before now old new = (Sound → ⊥) × Rise × PollFaulted before now old new

-- the polled member is the ready one with the least number
abbrev pub PollingLeast : {V : Type 0} → Wiring → ℕ → Shared V → Polling → Type 0
PollingLeast g worker h (Member object) = IsLeastPoll g worker h (play.Poll object)
PollingLeast g worker h polling = Unit {0}

-- what is so of the phase, whether or not the parts tell what they hold
abbrev pub PollingIn : Polling → Phase → Phase → Type 0
PollingIn Nothing before now = now ≡ before
PollingIn (Member object) before now = (before ≡ Idle) × HasPolled object now
PollingIn Failed before now = (before ≡ Idle) × (now ≡ Stopped (Fault EpollWait))
