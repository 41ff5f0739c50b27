-- What a run makes of the device.
use Rattle.std.specs.Prelude.{◌≡◌, ◌≤◌, ◌+◌, ◌-◌, ◌^◌, ℕ, min, List, [], ◌∷◌, Option}
use Rattle.vub_base.specs.Told.{Told}
use Rattle.vub_proto.specs.declared.device.VhostUserBackendMut.{Ghosts as Device}
use Rattle.vub_proto.specs.declared.device_said.DeviceSaid.{DeviceSaid}
use Rattle.vub_proto.specs.declared.device_said.DeviceSaid.TheVariants as outcome
use Rattle.vub_model.specs.DeviceCalls.{Call, Telling, Tells, moved_by}

-- what a device shows of itself: its value, where it is told, and how many of its calls it has refused
pub record DeviceState (D : Type 0) : Type 0 where
  pub value : Option D
  pub refusals : ℕ

-- what it shows by the contract that it meets
abbrev pub state_by : {D B I : Type 0} → Device D B I → D → DeviceState D
state_by d device = record { value = d.value device; refusals = d.refusal_count device }

-- what it means to say at a call, and the value that it means to have then
abbrev pub telling_by : {D B I : Type 0} → Device D B I → Telling D
telling_by d = record { said = d.said; moved = d.moved }

abbrev pub refusal_in : DeviceSaid → ℕ
refusal_in (outcome.Refused n) = 1
refusal_in said = 0

-- how many of these calls were refused
abbrev pub refused_in : List Call → ℕ
refused_in [] = 0
refused_in (c ∷ cs) = refusal_in c.outcome + refused_in cs

-- the count rose by so many; a count that stands at its end can't rise
abbrev pub RoseBy : ℕ → ℕ → ℕ → Type 0
RoseBy n before now = min (before + n) (2 ^ 64 - 1) ≤ now

-- These calls were made of a device, one after the other, and no other was. Where it tells its value, each outcome is
-- what the device meant to say at the value that the calls before left, and its value is the one that they all leave.
-- Its count of refusals rose at each refused call, and it never fell.
pub record HasMade {D : Type 0} (t : Telling D) (old new : DeviceState D) (cs : List Call) : Type 0 where
  pub told : Told old.value new.value (λ before now. Tells t before cs × (now ≡ moved_by t before cs))
  pub later : old.refusals ≤ new.refusals
  pub refused : RoseBy (refused_in cs) old.refusals new.refusals
