-- A worker's turn, told by its play.
use Rattle.std.specs.Prelude.{◌≡◌, ℕ}
use Rattle.vub_model.specs.declared.phase.Phase.{Phase}
use Rattle.vub_model.specs.declared.play.Play.{Play}
use Rattle.vub_model.specs.declared.play.Play.TheVariants as play
use Rattle.vub_model.specs.Shared.{Shared}
use Rattle.vub_model.specs.Service.{Meaning}
use Rattle.vub_model.specs.Wiring.{Wiring}
use Rattle.vub_loop.specs.declared.turned.Turned.{Turned}
use Rattle.vub_loop.specs.declared.turned.Turned.TheVariants as turned
use Rattle.vub_loop.specs.Handler.{IsHandler}
use Rattle.vub_loop.specs.Plays.{IsStep, HasNoWork}
use Rattle.vub_loop.specs.Worker.{Worker}

-- for each wiring and number by which it is a worker
abbrev pub ForHandler : Worker → (Wiring → ℕ → Type 0) → Type 0
ForHandler h P = (g : Wiring) (worker : ℕ) → IsHandler g worker h → P g worker

-- a turn at which the host failed is no turn of the machine
abbrev pub play_of : Turned → Play
play_of (turned.Played l) = l
play_of t = play.Pass

-- it passes where it has no step, and nothing changes; else it made this step
abbrev pub IsTurn : {V : Type 0} → Meaning V → Wiring → ℕ → Play → Phase → Phase → Shared V → Shared V → Type 0
IsTurn m g worker play.Pass before now old new = HasNoWork g worker old before × (new ≡ old) × (now ≡ before)
IsTurn m g worker l before now old new = IsStep m g worker l before now old new
