-- Worked rows: the plans of some requests, as lists.
use Rattle.std.proofs.Common.{◌≡◌, ℕ, Bool, true, false, [], ◌∷◌, Option, Some, None, refl}
use Rattle.vub_proto.specs.declared.device_op.DeviceOp.TheVariants as device
use Rattle.vub_proto.specs.declared.request.Request.TheVariants as request
use Rattle.vub_model.specs.declared.ring_op.RingOp.TheVariants as op
use Rattle.vub_model.specs.declared.session.Session.{Session}
use Rattle.vub_model.specs.declared.small.Small.TheVariants.{Claim, Release, Add, Delete, Bell, Remove, Insert, Set, Device, Answer as Answering}
use Rattle.vub_model.specs.Frame.{Frame}
use Rattle.vub_model.specs.Wiring.{Wiring, place_of}
use Rattle.vub_model.specs.Plans.{plan_of}

-- one queue of worker 0, whose list is 0, and whose bell is event 3
one : Wiring
one = record { queues = 1; max = 256; features = 0x164000000; protocol = 0x20a; tracks = false; masks = 4294967295 ∷ []; opened = record { worker = 0; list = 0; bell = 3; exit = None } ∷ [] }

abbrev frame : Option ℕ → Bool → Bool → Frame
frame kick ready enabled = record { known = record { kick = kick; ready = ready; enabled = enabled } ∷ []; lists = [] ∷ []; claims = None ∷ None ∷ None ∷ None ∷ []; events = false ∷ true ∷ true ∷ true ∷ [] }

session : ℕ → Session
session features = record { owned = false; features = features; protocol = 0; mappings = [] }

-- bit 30 is acknowledged: set_features has four steps, set_vring_kick of a ring that is not ready four, and enabling six
features-row : (plan_of one (frame None false false) [] (session 0) (request.SetFeatures 0x40000000)).steps
    ≡ Set 0 (op.SetEventIdx false) ∷ Device (device.SetEventIdx false) ∷ Device (device.AckedFeatures 0x40000000) ∷ Answering ∷ []
unfolding plan_of one session place_of
features-row = refl

kick-row : (plan_of one (frame None false false) [] (session 0x40000000) (request.SetVringKick 0 (Some 1))).steps
    ≡ Claim 1 0 ∷ Set 0 (op.SetKick (Some 1)) ∷ Set 0 (op.SetReady true) ∷ Remove 0 0 ∷ Delete 0 1 ∷ Answering ∷ []
unfolding plan_of one session place_of
kick-row = refl

enable-row : (plan_of one (frame (Some 1) true false) [] (session 0x40000000) (request.SetVringEnable 0 true)).steps
    ≡ Set 0 (op.SetEnabled true) ∷ Add 0 1 0 ∷ Insert 0 0 ∷ Bell 3 ∷ Answering ∷ []
unfolding plan_of one session place_of
enable-row = refl

-- a stop of a running ring has eight steps
stop-row : (plan_of one (frame (Some 1) true true) [] (session 0) (request.GetVringBase 0)).steps
    ≡ Set 0 (op.SetReady false) ∷ Remove 0 0 ∷ Delete 0 1 ∷ Device (device.StopVring 0) ∷ Set 0 (op.SetKick None) ∷ Set 0 (op.SetCall None) ∷ Release 1 ∷ Answering ∷ []
unfolding plan_of one session place_of
stop-row = refl

-- a new kick of a running ring
new-kick-row : (plan_of one (frame (Some 1) true true) [] (session 0) (request.SetVringKick 0 (Some 2))).steps
    ≡ Claim 2 0 ∷ Remove 0 0 ∷ Delete 0 1 ∷ Set 0 (op.SetKick (Some 2)) ∷ Release 1 ∷ Add 0 2 0 ∷ Insert 0 0 ∷ Bell 3 ∷ Answering ∷ []
unfolding plan_of one session place_of
new-kick-row = refl
