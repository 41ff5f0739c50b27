-- A request that is under way: what is left of its plan. The regions that a change of the table leaves are known to the
-- table alone, so the call that tells the device of them is filled in where the table is changed.
use Rattle.std.specs.Prelude.{◌≡◌, ℕ, Bool, true, List, [], ◌∷◌}
use Rattle.vub_mem.specs.declared.region.Region.{Region}
use Rattle.vub_proto.specs.declared.device_op.DeviceOp.TheVariants as device
use Rattle.vub_proto.specs.declared.request.Request.{Request}
use Rattle.vub_proto.specs.declared.request.Request.TheVariants.{RegisterListener, UnregisterListener}
use Rattle.vub_model.specs.declared.session.Session.{Session}
use Rattle.vub_model.specs.declared.small.Small.{Small}
use Rattle.vub_model.specs.declared.small.Small.TheVariants.{Table, Device}
use Rattle.vub_model.specs.declared.small.Small.TheVariants.{Answer as Answering}
use Rattle.vub_model.specs.declared.wiring.Known.{Known}
use Rattle.vub_model.specs.Control.{tail_of, drop_two, instead, told}
use Rattle.vub_model.specs.Frame.{Frame, is_there}
use Rattle.vub_model.specs.Plans.{Reply, says, next_of, Plan, regions_after, plan_of}
use Rattle.vub_model.specs.Wiring.{Wiring}
use Rattle.vub_plan.specs.declared.half.Due.{Due}
use Rattle.vub_plan.specs.declared.half.Due.TheVariants as due
use Rattle.vub_plan.specs.declared.half.Head.{Head}
use Rattle.vub_plan.specs.declared.half.Head.TheVariants as head
use Rattle.vub_plan.specs.declared.half.Stage.{Stage}
use Rattle.vub_plan.specs.declared.half.Stage.TheVariants as stage
use Rattle.vub_plan.specs.declared.half.Turn.{Turn}
use Rattle.vub_plan.specs.declared.half.Turn.TheVariants as turn

abbrev pub reply_of : Due → Reply
reply_of (due.Says a) = says a
reply_of (due.NextOf queue) = next_of queue

pub record Begun : Type 0 where
  -- what comes before the other steps
  pub head : Head
  pub plan : Plan

-- a plan with nothing before its steps
abbrev pub of_plan : Plan → Begun
of_plan plan = record { head = head.None; plan = plan }

-- the steps that come before the others, where guest memory has these regions
abbrev pub with_head : Head → List Region → List Small → List Small
with_head head.None rs steps = steps
with_head (head.Table change) rs steps = Table change ∷ Device (device.UpdateMemory (regions_after rs change)) ∷ steps
with_head (head.Update regions) rs steps = Device (device.UpdateMemory regions) ∷ steps

-- the plan that is left, where guest memory has these regions
abbrev pub plan_at : List Region → Begun → Plan
plan_at rs b = record b.plan { steps = with_head b.head rs b.plan.steps }

-- the event that a listener's request names is there
abbrev pub NamesThere : Frame → Request → Type 0
NamesThere f (RegisterListener worker event set token) = is_there f event ≡ true
NamesThere f (UnregisterListener worker event set token) = is_there f event ≡ true
NamesThere f r = Unit {0}

-- it has the plan of this request, where kicks and flags of the rings are known
abbrev pub IsPlanOf : Wiring → List Known → Session → Request → Begun → Type 0
IsPlanOf g known s request b =
    (f : Frame) (rs : List Region) → f.known ≡ known → NamesThere f request → plan_at rs b ≡ plan_of g f rs s request

-- the same of a request that asks nothing of the wiring or the rings
abbrev pub IsSessionPlan : Session → Request → Begun → Type 0
IsSessionPlan s request b = (g : Wiring) (known : List Known) → IsPlanOf g known s request b

-- the same of a request that asks nothing of the rings
abbrev pub IsWiredPlan : Wiring → Session → Request → Begun → Type 0
IsWiredPlan g s request b = (known : List Known) → IsPlanOf g known s request b

-- Steps that are played

-- the plan with its first step off
abbrev pub dropped : Plan → Plan
dropped p = record p { steps = tail_of p.steps }

-- which step is the next
abbrev pub stage_of : List Small → Stage
stage_of [] = stage.Spent
stage_of (Answering ∷ rest) = stage.Answer
stage_of (s ∷ rest) = stage.Step

-- what a step that was played makes of the steps after it
abbrev pub turned : Turn → Plan → Plan
turned turn.Goes p = p
turned turn.Skips p = record p { steps = drop_two p.steps }
turned (turn.Instead a) p = instead a p
turned (turn.Tells a) p = told a p
