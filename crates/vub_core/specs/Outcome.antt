-- What a schedule came to.
use Rattle.std.specs.Prelude.{◌≡◌, ◌<◌, ◌≤◌, ℕ, List, length, map, take, Some}
use Rattle.vub_model.specs.declared.constants.Constants.{Constants}
use Rattle.vub_model.specs.declared.play.Play.{Play}
use Rattle.vub_model.specs.declared.run.DriveFault.{DriveFault}
use Rattle.vub_model.specs.declared.run.DriveFault.TheVariants as drive_fault
use Rattle.vub_model.specs.declared.run.Run.{Run}
use Rattle.vub_model.specs.declared.setup.Setup.{Setup}
use Rattle.vub_model.specs.DeviceCalls.{Telling, label_of, calls}
use Rattle.vub_model.specs.Faithful.{IsFaithful}
use Rattle.vub_laws.specs.Orderly.{IsOrderly}
use Rattle.vub_model.specs.Opening.{opening}
use Rattle.vub_model.specs.RunOf.{IsRun, PollsLeast}
use Rattle.vub_model.specs.RunRecords.{Shows}
use Rattle.vub_model.specs.Service.{Meaning}
use Rattle.vub_model.specs.ValidSetup.{IsValid, fault_of}
use Rattle.vub_model.specs.World.{World}
use Rattle.vub_core.specs.DeviceRun.{DeviceState, HasMade}
use Rattle.vub_core.specs.Replies.{CallsFit, RepliesFit}

-- The headline. The run handed back shows the labels of plays that are a run of the machine of party turns for this
-- schedule, from the opening of the set-up: each turn passes only where its party has no step, and each poll takes the
-- ready member with the least number. The run is faithful: what that says of entries, uses, writes, kicks and answers
-- stands there. It is orderly: its work drains, and a queue that nothing disturbs is served as alone. Each reply fits
-- the room of its entry. Service and device are as their calls in this run left them.
pub record IsPlayed {V D : Type 0} (m : Meaning V) (t : Telling D) (constants : Constants) (setup : Setup)
    (schedule : List ℕ) (v end : V) (before now : DeviceState D) (run : Run) : Type 0 where
  pub valid : IsValid constants setup
  pub plays : List Play
  pub closing : World V
  pub is_run : IsRun m schedule plays (opening constants setup v) closing
  pub least : PollsLeast m schedule plays (opening constants setup v)
  pub shows :
      Shows setup.objects (map label_of plays) (calls m schedule plays (opening constants setup v)) closing run
  pub value : end ≡ closing.shared.service
  pub made : HasMade t before now (calls m schedule plays (opening constants setup v))
  pub faithful : IsFaithful m constants setup v schedule plays closing
  pub orderly : IsOrderly m constants setup v schedule plays closing
  pub fits : RepliesFit m schedule plays (opening constants setup v) run

-- Memory was refused after this many turns. They are a run for the front of the schedule, from the opening of the
-- set-up, each of whose polls takes the ready member with the least number, as in the run of the whole schedule; each
-- reply in it fits the room of its entry; and service and device are as their calls in these turns left them. A turn was
-- finished only of a valid set-up.
pub record IsCutShort {V D : Type 0} (m : Meaning V) (t : Telling D) (constants : Constants) (setup : Setup)
    (schedule : List ℕ) (v end : V) (before now : DeviceState D) (done : ℕ) : Type 0 where
  pub valid : 0 < done → IsValid constants setup
  pub plays : List Play
  pub closing : World V
  pub within : done ≤ length schedule
  pub is_run : IsRun m (take done schedule) plays (opening constants setup v) closing
  pub least : PollsLeast m (take done schedule) plays (opening constants setup v)
  pub value : end ≡ closing.shared.service
  pub made : HasMade t before now (calls m (take done schedule) plays (opening constants setup v))
  pub fits : CallsFit m (take done schedule) plays (opening constants setup v)

-- why there is no run: the first test that the set-up fails, and then neither service nor device was asked for more
-- than the device's constants; or want of memory
abbrev pub IsRefused : {V D : Type 0} → Meaning V → Telling D → Constants → Setup → List ℕ → V → V → DeviceState D
    → DeviceState D → DriveFault → Type 0
IsRefused m t constants setup schedule v end before now (drive_fault.Setup fault) =
    (fault_of constants setup ≡ Some fault) × (end ≡ v) × (now ≡ before)
IsRefused m t constants setup schedule v end before now (drive_fault.OutOfMemory done) =
    IsCutShort m t constants setup schedule v end before now done
