-- A step of control, as the session plays it over what is shared.
use Rattle.std.specs.Prelude.{◌≡◌, map, List, [], ◌∷◌, Option, Some, None}
use Rattle.vub_proto.specs.declared.device_op.DeviceOp.{DeviceOp}
use Rattle.vub_proto.specs.declared.device_said.DeviceSaid.{DeviceSaid}
use Rattle.vub_model.specs.declared.small.Small.{Small}
use Rattle.vub_model.specs.declared.small.Small.TheVariants.{Device as Asks}
use Rattle.vub_model.specs.Control.{StandsStill}
use Rattle.vub_model.specs.DeviceCalls.{Telling, is_refused}
use Rattle.vub_model.specs.Frame.{known_of}
use Rattle.vub_model.specs.Shared.{Shared}
use Rattle.vub_plan.specs.Halves.{Begun, plan_at}
use Rattle.vub_handler.specs.declared.played.Played.{Played}
use Rattle.vub_handler.specs.Acting.{called}
use Rattle.vub_handler.specs.Player.{Player}
use Rattle.vub_handler.specs.Playing.{IsPlayRow}
use Rattle.vub_core.specs.DeviceRun.{DeviceState, HasMade}

-- the call that a plan's first step is
abbrev pub asked_first : List Small → Option DeviceOp
asked_first (Asks op ∷ rest) = Some op
asked_first steps = None

-- what a session is at, and what is left of its request
pub record Sitting : Type 0 where
  pub player : Player
  pub half : Begun

-- the first step of the plan was played, and its call was made of the device
pub record IsPlayedStep {V D : Type 0} (t : Telling D) (before now : Sitting) (old new : Shared V)
    (was is : DeviceState D) (played : Played) : Type 0 where
  pub said : DeviceSaid
  pub row : IsPlayRow before.player now.player before.half now.half played said old new
  pub wiring : now.player.wiring ≡ before.player.wiring
  pub known : now.player.known ≡ map known_of new.rings
  pub refused : played.refused ≡ is_refused said
  pub made : HasMade t was is (called played.small said)

-- no step is left, or the first waits, and nothing has changed
pub record StoodStill {V D : Type 0} (t : Telling D) (before now : Sitting) (old new : Shared V)
    (was is : DeviceState D) : Type 0 where
  pub still : StandsStill old (plan_at old.guest.regions before.half).steps
  pub shared : new ≡ old
  pub sitting : now ≡ before
  pub made : HasMade t was is []

abbrev pub PlaysStep : {V D : Type 0} → Telling D → Sitting → Sitting → Shared V → Shared V
    → DeviceState D → DeviceState D → Option Played → Type 0
PlaysStep t before now old new was is None = StoodStill t before now old new was is
PlaysStep t before now old new was is (Some played) = IsPlayedStep t before now old new was is played
