-- What a session plays of a request: its first step that is left, as the machine's control plays it.
use Rattle.std.specs.Prelude.{◌≡◌, ◌⊎◌, ℕ, ◌+◌, ◌<◌, true, List, [], ◌∷◌, length, map, slice_set, option_to_list}
use Rattle.std.specs.Prelude.{Option, Some, None, Result, IfOk, OnErr}
use Rattle.std.specs.Option.{ForSome}
use Rattle.vub_mem.specs.declared.region.Region.{Region}
use Rattle.vub_proto.specs.declared.answer.Answer.{Answer}
use Rattle.vub_proto.specs.declared.answer.Answer.TheVariants as answer
use Rattle.vub_proto.specs.declared.answer.Cause.TheVariants as cause
use Rattle.vub_proto.specs.declared.answer.VhostUserError.TheVariants as error
use Rattle.vub_proto.specs.declared.device_said.DeviceSaid.{DeviceSaid}
use Rattle.vub_model.specs.declared.small.Small.{Small}
use Rattle.vub_model.specs.declared.small.Small.TheVariants.{Set}
use Rattle.vub_model.specs.declared.wiring.Known.{Known}
use Rattle.vub_model.specs.Control.{small_after, waits_now, rest_after, MayControl, session_by, answers_by, answer_of}
use Rattle.vub_model.specs.Control.{instead, tail_of}
use Rattle.vub_model.specs.DeviceCalls.{Telling, is_refused}
use Rattle.vub_model.specs.Frame.{known_of}
use Rattle.vub_model.specs.FrameSteps.{known_after}
use Rattle.vub_model.specs.Plans.{Reply, says, next_of}
use Rattle.vub_model.specs.Shared.{Shared}
use Rattle.vub_vring.specs.Calls.{IsCounted}
use Rattle.vub_vring.specs.PartsState.{PartsState, HasFailed, Tells, Lasts}
use Rattle.vub_plan.specs.declared.half.Head.{Head}
use Rattle.vub_plan.specs.declared.half.Head.TheVariants as head
use Rattle.vub_plan.specs.Halves.{Begun, plan_at, dropped}
use Rattle.vub_plan.specs.Wires.{known_in}
use Rattle.vub_handler.specs.declared.played.Played.{Played}
use Rattle.vub_handler.specs.declared.played.Progress.{Progress}
use Rattle.vub_handler.specs.declared.played.Progress.TheVariants as progress
use Rattle.vub_loop.specs.Faults.{RowOrFault}
use Rattle.vub_handler.specs.Acting.{IsNamed, HasRefused, IsCausedAnswer, called, CallsBy}
use Rattle.vub_handler.specs.Player.{Player}

-- kicks and flags of the rings are those that the session knows
abbrev pub IsKnown : {V : Type 0} → Shared V → Player → Type 0
IsKnown h p = p.known ≡ map known_of h.rings

-- what is known after a step
abbrev pub known_by : Small → List Known → List Known
known_by (Set queue o) known = slice_set known queue (known_after (known_in known queue) o)
known_by s known = known

-- the first step that is left has to wait, or none is left
abbrev pub WaitsAt : {V : Type 0} → Shared V → List Small → Type 0
WaitsAt h [] = Unit {0}
WaitsAt h (s ∷ rest) = waits_now h s ≡ true

-- The step was played, and is the machine's: what it leaves of what is shared, of the plan and of the session.
pub record IsPlayRow {V : Type 0} (before now : Player) (was left : Begun) (p : Played) (said : DeviceSaid)
    (old new : Shared V) : Type 0 where
  pub may : MayControl old (plan_at old.guest.regions was).steps p.small said
  pub shared : new ≡ small_after before.wiring old p.small
  pub rest :
      plan_at new.guest.regions left
      ≡ rest_after before.wiring old p.small said (dropped (plan_at old.guest.regions was))
  pub session : now.session ≡ session_by old p.small (plan_at old.guest.regions was) before.session
  pub answer : option_to_list p.answer ≡ answers_by old p.small (plan_at old.guest.regions was)
  pub known : IsKnown old before → IsKnown new now

-- the answer where the host failed
abbrev pub host_answer : Answer
host_answer = answer.Failed (error.ReqHandlerError cause.Host)

-- The host failed at the step: nothing changes, and the Answer alone is left, which refuses the request.
pub record IsPlayFault {V : Type 0} (before now : Player) (was left : Begun) (p : Played) (old new : Shared V)
    : Type 0 where
  pub shared : new ≡ old
  pub rest : plan_at old.guest.regions left ≡ instead host_answer (plan_at old.guest.regions was)
  pub player : now ≡ before
  pub answer : p.answer ≡ None

-- an answer is the one that is due, and nothing changes
abbrev pub IsDueBy : {V D E : Type 0} → Reply → Result Answer E → PartsState V D → PartsState V D → Type 0
IsDueBy reply result old new = IfOk result (λ a. Tells old new (λ h k. (a ≡ answer_of h reply) × (k ≡ h)))

-- told or not, host and device are named as the cause of a refusal only where their counts rose
abbrev pub IsCausedReply : Type 0 → Type 0 → Reply → Type 0
IsCausedReply Failed Refused (says a) = IsCausedAnswer Failed Refused a
IsCausedReply Failed Refused r = Unit {0}

-- The first step was played, in which the device said this.
pub record IsPlayed {V D : Type 0} (t : Telling D) (p : Played) (said : DeviceSaid) (before now : Player)
    (was left : Begun) (old new : PartsState V D) : Type 0 where
  pub first : (rs : List Region) → (plan_at rs was).steps ≡ p.small ∷ tail_of (plan_at rs was).steps
  pub row :
      Tells old new (λ a b.
      IsNamed before.wiring a.table p.small
      → RowOrFault old.NeverFails (HasFailed old new) (IsPlayRow before now was left p said a b)
      (IsPlayFault before now was left p a b))
  pub refusal : p.refused ≡ is_refused said
  pub device : CallsBy t (called p.small said) old new
  pub counted : IsCounted old.refusals new.refusals said
  pub caused :
      (left.plan.reply ≡ was.plan.reply) ⊎ IsCausedReply (HasFailed old new) (HasRefused old new) left.plan.reply

-- No step was played: the first has to wait, or none is left. Nothing changes.
pub record IsHeld {V D : Type 0} (before now : Player) (was left : Begun) (old new : PartsState V D) : Type 0 where
  pub player : now ≡ before
  pub half : left ≡ was
  pub waits : Tells old new (λ a b. WaitsAt a (plan_at a.guest.regions was).steps × (b ≡ a))
  pub device : new.device ≡ old.device
  pub refusals : new.refusals ≡ old.refusals

abbrev pub PlayedBy : {V D : Type 0} → Telling D → Option Played → Player → Player → Begun → Begun → PartsState V D
    → PartsState V D → Type 0
PlayedBy t None before now was left old new = IsHeld before now was left old new
PlayedBy t (Some p) before now was left old new = (said : DeviceSaid) × IsPlayed t p said before now was left old new

-- how far a request came by one step
abbrev pub CameTo : {V D : Type 0} → Telling D → Progress → Player → Player → Begun → Begun → PartsState V D
    → PartsState V D → Type 0
CameTo t progress.Waits before now was left old new = IsHeld before now was left old new
CameTo t progress.Going before now was left old new =
    (p : Played) × (p.answer ≡ None) × PlayedBy t (Some p) before now was left old new
CameTo t (progress.Done a) before now was left old new =
    (p : Played) × (p.answer ≡ Some a) × PlayedBy t (Some p) before now was left old new

-- told or not, a request is answered what is due
abbrev pub IsDueFrom : Reply → Answer → Type 0
IsDueFrom (says a) x = x ≡ a
IsDueFrom (next_of queue) x = (n : ℕ) × (x ≡ answer.Base queue n)

-- more than the steps that are left: what comes before the others counts for its steps and for the Answer of a refusal
abbrev pub head_left : Head → ℕ
head_left head.None = 0
head_left (head.Update regions) = 2
head_left (head.Table change) = 3

abbrev pub left_of : Begun → ℕ
left_of b = head_left b.head + length b.plan.steps

-- Told or not, each step that is played brings a request nearer to its end, and its Answer says what is due.
pub record IsMove (p : Played) (was left : Begun) : Type 0 where
  pub nearer : left_of left < left_of was
  pub due : ForSome p.answer (IsDueFrom was.plan.reply)

abbrev pub MovesBy : Option Played → Begun → Begun → Type 0
MovesBy None was left = Unit {0}
MovesBy (Some p) was left = IsMove p was left

-- the same, by how far the request came
abbrev pub ComesNearer : Progress → Begun → Begun → Type 0
ComesNearer progress.Waits was left = Unit {0}
ComesNearer progress.Going was left = left_of left < left_of was
ComesNearer (progress.Done a) was left = (left_of left < left_of was) × IsDueFrom was.plan.reply a

-- What a play leaves, told or not. Its only error is want of memory, which leaves everything as it was.
pub record PlayFrame {V D T E : Type 0} (before now : Player) (was left : Begun) (old new : PartsState V D)
    (result : Result T E) : Type 0 where
  pub wiring : now.wiring ≡ before.wiring
  pub lasts : Lasts old new
  pub player : OnErr result (now ≡ before)
  pub half : OnErr result (left ≡ was)
  pub shared : OnErr result (new.shared ≡ old.shared)
  pub device : OnErr result (new.device ≡ old.device)
