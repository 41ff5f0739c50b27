-- The calls of the device in a run, and what a device that tells its value makes of them.
use Rattle.std.specs.Prelude.{◌≡◌, ℕ, Bool, true, false, if◌then◌else◌, List, [], ◌∷◌, ◌++◌, length}
use Rattle.vub_proto.specs.declared.device_op.DeviceOp.{DeviceOp}
use Rattle.vub_proto.specs.declared.device_op.DeviceOp.TheVariants as device
use Rattle.vub_proto.specs.declared.device_said.DeviceSaid.{DeviceSaid}
use Rattle.vub_proto.specs.declared.device_said.DeviceSaid.TheVariants as outcome
use Rattle.vub_model.specs.declared.label.Label.{Label}
use Rattle.vub_model.specs.declared.label.Label.TheVariants as label
use Rattle.vub_model.specs.declared.party.Party.{Party}
use Rattle.vub_model.specs.declared.party.Party.TheVariants as party
use Rattle.vub_model.specs.declared.phase.Phase.{Phase}
use Rattle.vub_model.specs.declared.phase.Phase.TheVariants.{Heard}
use Rattle.vub_model.specs.declared.play.Play.{Play}
use Rattle.vub_model.specs.declared.play.Play.TheVariants as play
use Rattle.vub_model.specs.declared.records.DeviceCall.{DeviceCall}
use Rattle.vub_model.specs.declared.small.Small.TheVariants.{Device as Asks}
use Rattle.vub_model.specs.Service.{Meaning}
use Rattle.vub_model.specs.World.{World, phase_at}
use Rattle.vub_model.specs.RunOf.{party_of, next}

-- the label of a play
abbrev pub label_of : Play → Label
label_of play.Pass = label.Pass
label_of play.Guest = label.Guest
label_of (play.Control s said) = label.Control s
label_of (play.Poll object) = label.Poll object
label_of play.Event = label.Event
label_of play.Sweep = label.Sweep
label_of (play.Hear said) = label.Hear
label_of play.Take = label.Take
label_of play.Serve = label.Serve
label_of play.Put = label.Put

-- one call of the device, and what it answered
pub record Call : Type 0 where
  pub op : DeviceOp
  pub outcome : DeviceSaid

-- the first number of a call, where it has one
abbrev pub first_number : DeviceOp → ℕ
first_number (device.AckedFeatures bits) = bits
first_number (device.SetEventIdx enabled) = if enabled then 1 else 0
first_number (device.GetConfig offset size) = offset
first_number (device.SetConfig offset bytes) = offset
first_number (device.SetBackendReqFd backend) = backend.object
first_number (device.StopVring queue) = queue
first_number (device.HandleEvent token worker) = token
first_number (device.SetGpuSocket object) = object
first_number (device.SetDeviceStateFd direction phase object) = direction
first_number op = 0

-- and its second
abbrev pub second_number : DeviceOp → ℕ
second_number (device.GetConfig offset size) = size
second_number (device.SetConfig offset bytes) = length bytes
second_number (device.HandleEvent token worker) = worker
second_number (device.SetDeviceStateFd direction phase object) = phase
second_number op = 0

abbrev pub is_refused : DeviceSaid → Bool
is_refused (outcome.Refused n) = true
is_refused said = false

-- the record of a call
abbrev pub device_call : Call → DeviceCall
device_call c =
    record { op = c.op; a = first_number c.op; b = second_number c.op; refused = is_refused c.outcome }

-- the call that a worker's step in this phase makes, if it is a Hear
abbrev pub heard_in : ℕ → Phase → Play → List Call
heard_in worker (Heard token) (play.Hear said) = record { op = device.HandleEvent token worker; outcome = said } ∷ []
heard_in worker phase l = []

-- the call that a turn makes
abbrev pub call_at : {V : Type 0} → World V → Party → Play → List Call
call_at w party.Control (play.Control (Asks call) said) = record { op = call; outcome = said } ∷ []
call_at w (party.Worker k) l = heard_in k (phase_at w.phases k) l
call_at w p l = []

-- the calls of a run, in the order of their steps
abbrev pub calls : {V : Type 0} → Meaning V → List ℕ → List Play → World V → List Call
calls m [] plays w = []
calls m (turn ∷ turns) [] w = []
calls m (turn ∷ turns) (l ∷ plays) w = call_at w (party_of turn) l ++ calls m turns plays (next m w (party_of turn) l)

-- what a device means that tells its value
pub record Telling (D : Type 0) : Type 0 where
  pub said : D → DeviceOp → DeviceSaid
  pub moved : D → DeviceOp → D

-- its value after these calls
abbrev pub moved_by : {D : Type 0} → Telling D → D → List Call → D
moved_by t d [] = d
moved_by t d (c ∷ cs) = moved_by t (t.moved d c.op) cs

-- it told these outcomes
abbrev pub Tells : {D : Type 0} → Telling D → D → List Call → Type 0
Tells t d [] = Unit {0}
Tells t d (c ∷ cs) = (c.outcome ≡ t.said d c.op) × Tells t (t.moved d c.op) cs
