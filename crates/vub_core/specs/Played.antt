-- What playing a schedule came to, so far.
use Rattle.std.specs.Prelude.{◌≡◌, ◌≤◌, ℕ, List, length, map, take}
use Rattle.vub_model.specs.declared.label.Label.{Label}
use Rattle.vub_model.specs.declared.play.Play.{Play}
use Rattle.vub_model.specs.declared.records.DeviceCall.{DeviceCall}
use Rattle.vub_model.specs.DeviceCalls.{Telling, label_of, calls, device_call}
use Rattle.vub_model.specs.RunOf.{IsRun, PollsLeast}
use Rattle.vub_model.specs.Service.{Meaning}
use Rattle.vub_model.specs.World.{World}
use Rattle.vub_core.specs.DeviceRun.{DeviceState, HasMade}
use Rattle.vub_core.specs.Replies.{CallsFit}

-- There are plays with these labels that are a run, each of whose polls takes the ready member with the least number,
-- each of whose replies fits, and whose calls were made of the device and are recorded so.
pub record HasPlayed {V D : Type 0} (m : Meaning V) (t : Telling D) (schedule : List ℕ) (labels : List Label)
    (recorded : List DeviceCall) (old new : World V) (before now : DeviceState D) : Type 0 where
  pub plays : List Play
  pub labels_are : labels ≡ map label_of plays
  pub recorded_are : recorded ≡ map device_call (calls m schedule plays old)
  pub is_run : IsRun m schedule plays old new
  pub least : PollsLeast m schedule plays old
  pub made : HasMade t before now (calls m schedule plays old)
  pub fits : CallsFit m schedule plays old

-- the labels are those of a run of the front of the schedule, and service and device are as it left them
pub record WasCutShort {V D : Type 0} (m : Meaning V) (t : Telling D) (schedule : List ℕ) (labels : List Label)
    (old : World V) (end : V) (before now : DeviceState D) : Type 0 where
  pub closing : World V
  pub recorded : List DeviceCall
  pub within : length labels ≤ length schedule
  pub front : HasPlayed m t (take (length labels) schedule) labels recorded old closing before now
  pub value : end ≡ closing.shared.service
