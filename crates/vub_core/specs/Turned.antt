-- One turn of the machine.
use Rattle.std.specs.Prelude.{◌≡◌, ◌++◌, List, map}
use Rattle.std.specs.List.{AllByRecursion}
use Rattle.vub_model.specs.declared.label.Label.{Label}
use Rattle.vub_model.specs.declared.party.Party.{Party}
use Rattle.vub_model.specs.declared.play.Play.{Play}
use Rattle.vub_model.specs.declared.records.DeviceCall.{DeviceCall}
use Rattle.vub_model.specs.DeviceCalls.{Telling, label_of, call_at, device_call}
use Rattle.vub_model.specs.Headline.{asked_at}
use Rattle.vub_model.specs.RunOf.{Turn, IsLeast}
use Rattle.vub_model.specs.Service.{Meaning}
use Rattle.vub_model.specs.World.{World}
use Rattle.vub_core.specs.DeviceRun.{DeviceState, HasMade}
use Rattle.vub_core.specs.Replies.{FitsItsRoom}

-- A play with this label was the party's turn, its poll took the ready member with the least number, its call was made
-- of the device and recorded, and the reply that the service gave in it fits.
pub record HasTurned {V D : Type 0} (m : Meaning V) (t : Telling D) (party : Party) (label : Label)
    (old new : World V) (recorded now_recorded : List DeviceCall) (before now : DeviceState D) : Type 0 where
  pub play : Play
  pub label_is : label ≡ label_of play
  pub turn : Turn m old party play new
  pub least : IsLeast old party play
  pub made : HasMade t before now (call_at old party play)
  pub recorded_is : now_recorded ≡ recorded ++ map device_call (call_at old party play)
  pub fits : AllByRecursion FitsItsRoom (asked_at m old party play)
