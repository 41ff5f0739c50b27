-- The workers of a wiring.
use Rattle.std.specs.Prelude.{ℕ, ◌+◌, List, [], ◌∷◌}
use Rattle.vub_model.specs.Wiring.{Wiring}
use Rattle.vub_loop.specs.Handler.{IsHandler}
use Rattle.vub_loop.specs.Worker.{Worker}

-- they are those of the wiring, from this number on
abbrev pub AreHandlers : Wiring → ℕ → List Worker → Type 0
AreHandlers g k [] = Unit {0}
AreHandlers g k (h ∷ hs) = IsHandler g k h × AreHandlers g (k + 1) hs
