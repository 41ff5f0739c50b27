-- The call of the device that a worker makes, as the machine reads it before the step.
use Rattle.std.specs.Prelude.{ℕ, Option, Some, None}
use Rattle.vub_model.specs.declared.phase.Phase.{Phase}
use Rattle.vub_model.specs.declared.phase.Phase.TheVariants.{Heard}

-- the token of the listener that a worker in this phase has heard
abbrev pub token_in : Phase → Option ℕ
token_in (Heard token) = Some token
token_in phase = None
