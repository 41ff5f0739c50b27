-- The first of the steps that are left of a plan.
use Rattle.std.specs.Prelude.{◌≡◌, List, [], ◌∷◌}
use Rattle.vub_proto.specs.declared.device_op.DeviceOp.TheVariants as device
use Rattle.vub_model.specs.declared.small.Small.{Small}
use Rattle.vub_model.specs.declared.small.Small.TheVariants as small
use Rattle.vub_model.specs.declared.small.TableOp.{TableOp}
use Rattle.vub_core.specs.declared.first.First.{First}
use Rattle.vub_core.specs.declared.first.First.TheVariants as first

-- these steps begin with this one
abbrev pub BeginsWith : Small → List Small → Type 0
BeginsWith s steps = (rest : List Small) × (steps ≡ s ∷ rest)

abbrev pub IsFirstOf : First → List Small → Type 0
IsFirstOf first.Nothing steps = steps ≡ []
IsFirstOf first.Table steps = (change : TableOp) × BeginsWith (small.Table change) steps
IsFirstOf (first.Update regions) steps = BeginsWith (small.Device (device.UpdateMemory regions.now)) steps
IsFirstOf (first.Step s) steps = BeginsWith s.now steps
IsFirstOf first.Answer steps = BeginsWith small.Answer steps
