-- Draining, as it is told of one worker: each of its steps lowers the work that is left.
use Rattle.std.specs.Prelude.{ℕ}
use Rattle.vub_model.specs.declared.phase.Phase.{Phase}
use Rattle.vub_model.specs.declared.play.Play.{Play}
use Rattle.vub_model.specs.Service.{Meaning}
use Rattle.vub_model.specs.Shared.{Shared}
use Rattle.vub_model.specs.Wiring.{Wiring}
use Rattle.vub_laws.specs.Draining.{StepLowers}
use Rattle.vub_loop.specs.Plays.{IsStep}

-- wherever the contract of a worker's step tells that it was made, it lowers the measure, while the available index
-- words stay
abbrev pub StepsLower : Type 0 → Type 0
StepsLower V =
    (m : Meaning V) → (g : Wiring) → (worker : ℕ) → (l : Play) → (before now : Phase) → (old new : Shared V) →
    IsStep m g worker l before now old new → StepLowers g worker before old now new
