-- A worked row: three requests from the opening, control alone: the features, the kick, and the queue enabled.
use Rattle.std.proofs.Common.{pos, ◌≡◌, ℕ, true, false, List, [], ◌∷◌, length, Some, None, refl}
use Rattle.vub_event.specs.HostTable.{members_at}
use Rattle.vub_proto.specs.declared.answer.Answer.TheVariants as answer
use Rattle.vub_proto.specs.declared.answer.Cause.TheVariants as cause
use Rattle.vub_proto.specs.declared.answer.VhostUserError.TheVariants as error
use Rattle.vub_proto.specs.declared.device_said.DeviceSaid.{DeviceSaid}
use Rattle.vub_model.specs.declared.small.Small.TheVariants.{Device}
use Rattle.vub_model.specs.Frame.{known_of}
use Rattle.vub_model.specs.declared.constants.Constants.{Constants}
use Rattle.vub_proto.specs.declared.device_said.DeviceSaid.TheVariants as outcome
use Rattle.vub_proto.specs.declared.request.Request.{Request}
use Rattle.vub_proto.specs.declared.request.Request.TheVariants as request
use Rattle.vub_model.specs.declared.setup.Object.TheVariants as object
use Rattle.vub_model.specs.declared.setup.Setup.{Setup}
use Rattle.vub_model.specs.declared.small.Small.{Small}
use Rattle.vub_model.specs.Shared.{Shared, count_at, ring_at}
use Rattle.vub_model.specs.World.{World, after_control}
use Rattle.vub_model.specs.Wiring.{place_of}
use Rattle.vub_model.specs.Control.{begun}
use Rattle.vub_model.specs.Plans.{plan_of}
use Rattle.vub_model.specs.Opening.{wiring_of, opening_held, new_control, opening, listed}
use Rattle.vub_event.specs.HostCalls.{claim_after, release_after, add_after, delete_after}

abbrev play-first : {V : Type 0} → World V → List Small → World V
play-first w [] = w
play-first w (s ∷ rest) = after_control w s outcome.Done

abbrev play-on : {V : Type 0} → List (Unit {0}) → World V → World V
play-on [] w = w
play-on (t ∷ ts) w = play-on ts (play-first w w.control.plan.steps)

abbrev constants : Constants
constants = record { queues = 1; max = 256; features = 0x164000000; protocol = 0x20a; tracks = false; masks = 1 ∷ []; exits = None ∷ [] }

-- event 0 is to be the kick; the bell is event 1
abbrev setup : Setup
setup = record {
  objects = object.Event 0 ∷ [];
  regions = [];
  rings = record { queue = 0; size = 8; info = None; base = 0; next_used = 0; kick = None; call = None; ready = false; enabled = false } ∷ [];
  requests = [];
  guest = [];
}

-- what is held at the opening
abbrev held_in : Setup → Shared ℕ
held_in given = opening_held constants given 0

-- the opening, where control is asked these requests
abbrev asked : Setup → List Request → World ℕ
asked given requests =
    record (opening constants given 0) {
      control = begun (wiring_of constants (length given.objects)) (held_in given) (record (new_control given) { requests = requests });
    }

abbrev fifteen : List (Unit {0})
fifteen = tt ∷ tt ∷ tt ∷ tt ∷ tt ∷ tt ∷ tt ∷ tt ∷ tt ∷ tt ∷ tt ∷ tt ∷ tt ∷ tt ∷ tt ∷ []

abbrev start : World ℕ
start = asked setup (request.SetFeatures 0x40000000 ∷ request.SetVringKick 0 (Some 0) ∷ request.SetVringEnable 0 true ∷ [])

abbrev end : World ℕ
end = play-on fifteen start

-- after 4, 6 and 5 steps all is answered
row-answers : end.control.answers ≡ answer.Ok ∷ answer.Ok ∷ answer.Ok ∷ []
unfolding opening plan_of place_of claim_after release_after add_after delete_after
row-answers = refl

row-plan : end.control.plan.steps ≡ []
unfolding opening plan_of place_of claim_after release_after add_after delete_after
row-plan = refl

-- the kick is listed under its event number behind the set-up's objects, its number is pending, and the bell is rung
row-list : members_at end.shared.table 0 ≡ listed 0 0 ∷ listed 1 1 ∷ []
unfolding opening plan_of place_of claim_after release_after add_after delete_after
row-list = refl

row-pending : end.shared.pending ≡ (0 ∷ []) ∷ []
unfolding opening plan_of place_of claim_after release_after add_after delete_after
row-pending = refl

row-bell : count_at end.shared.table 1 ≡ 1
unfolding opening plan_of place_of claim_after release_after add_after delete_after
row-bell = refl

-- A refused stop: the ring is not ready, the kick stays and is off the list; a call set after it registers the kick again.

abbrev refusing : Small → DeviceSaid
refusing (Device call) = outcome.Refused (pos 5)
refusing s = outcome.Done

abbrev refuse-first : {V : Type 0} → World V → List Small → World V
refuse-first w [] = w
refuse-first w (s ∷ rest) = after_control w s (refusing s)

abbrev refuse-on : {V : Type 0} → List (Unit {0}) → World V → World V
refuse-on [] w = w
refuse-on (t ∷ ts) w = refuse-on ts (refuse-first w w.control.plan.steps)

abbrev running : Setup
running = record {
  objects = object.Event 0 ∷ [];
  regions = [];
  rings = record { queue = 0; size = 8; info = None; base = 7; next_used = 0; kick = Some 0; call = None; ready = true; enabled = true } ∷ [];
  requests = [];
  guest = [];
}

abbrev begins : World ℕ
begins = asked running (request.GetVringBase 0 ∷ request.SetVringCall 0 None ∷ [])

abbrev stopped : World ℕ
stopped = refuse-on (tt ∷ tt ∷ tt ∷ tt ∷ tt ∷ []) begins

stop-answer : stopped.control.answers ≡ answer.Failed (error.ReqHandlerError (cause.Device (pos 5))) ∷ []
unfolding opening plan_of place_of claim_after release_after add_after delete_after
stop-answer = refl

stop-list : members_at stopped.shared.table 0 ≡ listed 1 1 ∷ []
unfolding opening plan_of place_of claim_after release_after add_after delete_after
stop-list = refl

stop-ring : known_of (ring_at stopped.shared 0) ≡ record { kick = Some 0; ready = false; enabled = true }
unfolding opening plan_of place_of claim_after release_after add_after delete_after
stop-ring = refl

abbrev again : World ℕ
again = refuse-on (tt ∷ tt ∷ tt ∷ tt ∷ tt ∷ tt ∷ []) stopped

again-list : members_at again.shared.table 0 ≡ listed 0 0 ∷ listed 1 1 ∷ []
unfolding opening plan_of place_of claim_after release_after add_after delete_after
again-list = refl

again-plan : again.control.plan.steps ≡ []
unfolding opening plan_of place_of claim_after release_after add_after delete_after
again-plan = refl
