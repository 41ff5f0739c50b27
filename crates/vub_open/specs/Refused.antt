-- Why there is no run of a set-up.
use Rattle.std.specs.Prelude.{◌≡◌, Option, Some}
use Rattle.vub_model.specs.declared.run.SetupFault.{SetupFault}
use Rattle.vub_model.specs.declared.run.DriveFault.{DriveFault}
use Rattle.vub_model.specs.declared.run.DriveFault.TheVariants as drive_fault

-- the refusal is the first test that the set-up fails; or it is want of memory before the first turn
abbrev pub IsRefusal : Option SetupFault → DriveFault → Type 0
IsRefusal fault (drive_fault.Setup f) = fault ≡ Some f
IsRefusal fault (drive_fault.OutOfMemory done) = done ≡ 0
