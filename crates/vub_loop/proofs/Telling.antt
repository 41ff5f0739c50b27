-- What is told of a call, and rows that hold or that a fault of the host takes the place of.
use Rattle.std.proofs.Common.{Option, Some, None, inl}
use Rattle.vub_base.specs.Told.{Told}
use Rattle.vub_loop.specs.Faults.{RowOrFault}

-- what follows from what is told holds where it is told
pub told-map : {A : Type 0} (a b : Option A) (P Q : A → A → Type 0) → ((x y : A) → P x y → Q x y) → Told a b P → Told a b Q
told-map None b P Q so told = tt
told-map (Some x) None P Q so told = told
told-map (Some x) (Some y) P Q so told = so x y told

pub by-row : {Row : Type 0} (Sound Rise AfterFault : Type 0) → Row → RowOrFault Sound Rise Row AfterFault
by-row Sound Rise AfterFault row = record { row = inl row; sound = λ sound. row }
