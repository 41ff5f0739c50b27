-- The run of a script: what `drive` makes of its set-up, its device, its service and its schedule.
use Rattle.std.specs.Prelude.{◌≡◌, ℕ, Bool, true, false, List, Option, Some}
use Rattle.vub_model.specs.declared.constants.Constants.{Constants}
use Rattle.vub_model.specs.declared.run.DriveFault.{DriveFault}
use Rattle.vub_model.specs.declared.run.DriveFault.TheVariants as drive_fault
use Rattle.vub_model.specs.declared.run.Run.{Run}
use Rattle.vub_model.specs.declared.run.SetupFault.{SetupFault}
use Rattle.vub_model.specs.declared.setup.Setup.{Setup}
use Rattle.vub_model.specs.Constants.{constants_of}
use Rattle.vub_model.specs.DeviceCalls.{Telling}
use Rattle.vub_model.specs.Service.{Meaning}
use Rattle.vub_model.specs.ValidSetup.{fault_of}
use Rattle.vub_core.specs.DeviceRun.{DeviceState}
use Rattle.vub_core.specs.Outcome.{IsPlayed}
use Rattle.vub_script.specs.declared.device_form.BitmapForm.{BitmapForm}
use Rattle.vub_script.specs.declared.device_form.BitmapForm.TheVariants as bitmap
use Rattle.vub_script.specs.declared.device_form.DeviceForm.{DeviceForm}
use Rattle.vub_script.specs.declared.script.Script.{Script}
use Rattle.vub_script.specs.declared.service_form.ServiceForm.{ServiceForm}
use Rattle.vub_share.specs.declared.no_run.NoRun.{NoRun}
use Rattle.vub_share.specs.declared.no_run.NoRun.TheVariants as why
use Rattle.vub_share.specs.declared.no_run.Unfit.TheVariants as unfit
use Rattle.vub_share.specs.declared.service.ScriptService.{ScriptService}
use Rattle.vub_share.specs.Service.{service_from, script_reply, script_after}
use Rattle.vub_share.specs.Device.{ScriptState, new_device, exit_at, script_said, script_moved}

-- the service of a script replies and changes as its meanings say
abbrev pub script_service : Meaning ScriptService
script_service = record { reply_of = λ v request room. script_reply v request room; after = λ v request room. script_after v request room }

-- the device of a script says and leaves what its meanings say
abbrev pub script_device : Telling ScriptState
script_device = record { said = λ d op. script_said d op; moved = λ d op. script_moved d op }

-- it tells its value
abbrev pub shown : ScriptState → DeviceState ScriptState
shown d = record { value = Some d; refusals = d.refusals }

-- whether its regions may get a log of dirty pages
abbrev pub tracks : BitmapForm → Bool
tracks bitmap.None = false
tracks bitmap.Pages = true

-- what the device of a script never changes, for one that tracks pages or not
abbrev pub constants_with : Bool → DeviceForm → Constants
constants_with tracked form =
    constants_of form.queues form.max_size form.features form.protocol tracked form.masks
    (λ worker. exit_at form.exits worker)

-- and as the script says
abbrev pub constants_in : DeviceForm → Constants
constants_in form = constants_with (tracks form.bitmap) form

-- the first test that the set-up of a script fails
abbrev pub fault_in : Script → Option SetupFault
fault_in script = fault_of (constants_in script.device) script.setup

-- why `drive` gave no run: a test of the set-up, or want of memory
abbrev pub no_run_for : DriveFault → NoRun
no_run_for (drive_fault.Setup fault) = why.Unfit (unfit.Setup fault)
no_run_for (drive_fault.OutOfMemory done) = why.Memory

-- a script has no run for this cause: its set-up fails this test first, or memory was refused
abbrev pub CausedBy : Script → NoRun → Type 0
CausedBy script (why.Unfit (unfit.Setup fault)) = fault_in script ≡ Some fault
CausedBy script (why.Unfit (unfit.Limit limit)) = ⊥
CausedBy script why.Memory = Unit {0}
CausedBy script why.Read = ⊥
CausedBy script why.TooLong = ⊥
CausedBy script (why.NotAScript fault) = ⊥

-- the script of these parts
abbrev pub script_with : Setup → DeviceForm → ServiceForm → List ℕ → Script
script_with setup device service schedule =
    record { setup = setup; device = device; service = service; schedule = schedule }

-- the headline's run of a script, in which its service and its device end in some state
abbrev pub IsRunOf : Script → Run → Type 0
IsRunOf script run =
    (end : ScriptService) × (device : ScriptState)
    × IsPlayed script_service script_device (constants_in script.device) script.setup script.schedule
    (service_from script.service) end (shown (new_device script.device)) (shown device) run
