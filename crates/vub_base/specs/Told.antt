-- What an object holds is told or not. A contract that speaks of what is held holds where it is told, and asks
-- nothing of an object that tells nothing, as one behind a lock.
use Rattle.std.specs.Prelude.{Option, Some, None}

-- a told value is told again, and the two are in this relation
abbrev pub Told : {A : Type 0} → Option A → Option A → (A → A → Type 0) → Type 0
Told None new R = Unit {0}
Told (Some old) None R = ⊥
Told (Some old) (Some new) R = R old new
