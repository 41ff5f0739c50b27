-- A request that is played to its end: its steps, one after the other, and what they leave of the session, of what is
-- shared and of the device.
use Rattle.std.specs.Prelude.{◌≡◌, ◌⊎◌, ℕ, Bool, true, List, [], ◌∷◌, ◌++◌, Option, Some, None, Result, Ok, Err, IfOk}
use Rattle.std.specs.List.{list_any}
use Rattle.vub_mem.specs.declared.region.Region.{Region}
use Rattle.vub_event.specs.HostTable.{HostTable}
use Rattle.vub_proto.specs.declared.answer.Answer.{Answer}
use Rattle.vub_proto.specs.declared.device_said.DeviceSaid.{DeviceSaid}
use Rattle.vub_proto.specs.declared.request.Request.{Request}
use Rattle.vub_proto.specs.declared.request.Request.TheVariants as request
use Rattle.vub_model.specs.declared.flight.Flight.TheVariants.{InFlight}
use Rattle.vub_model.specs.declared.small.Small.{Small}
use Rattle.vub_model.specs.Control.{tail_of}
use Rattle.vub_model.specs.DeviceCalls.{Call, Telling, is_refused}
use Rattle.vub_model.specs.Plans.{Reply}
use Rattle.vub_model.specs.Shared.{Shared, ring_at}
use Rattle.vub_model.specs.Wiring.{Wiring}
use Rattle.vub_vring.specs.PartsState.{PartsState, HasFailed, Tells, Lasts, IsUntouched}
use Rattle.vub_plan.specs.Halves.{Begun, plan_at, IsPlanOf}
use Rattle.vub_handler.specs.declared.played.Played.{Played}
use Rattle.vub_loop.specs.Faults.{RowOrFault}
use Rattle.vub_handler.specs.Acting.{IsNamed, HasRefused, IsCausedAnswer, called, CallsBy}
use Rattle.vub_handler.specs.Player.{Player}
use Rattle.vub_handler.specs.Playing.{IsKnown, WaitsAt, IsPlayRow, IsPlayFault, IsCausedReply, IsDueFrom}
use Rattle.vub_requests.specs.declared.unanswered.Unanswered.{Unanswered}
use Rattle.vub_requests.specs.declared.unanswered.Unanswered.TheVariants.{Waits, OutOfMemory}

-- one step that was played: what the device said in it, and the session and the request after it
pub record HandledStep : Type 0 where
  pub played : Played
  pub said : DeviceSaid
  pub player : Player
  pub left : Begun

-- the events and lists that these steps name are there
abbrev pub AllNamed : Wiring → HostTable → List Small → Type 0
AllNamed g t [] = Unit {0}
AllNamed g t (s ∷ steps) = IsNamed g t s × AllNamed g t steps

-- told or not, the step is the first that was left
pub record IsNext (before : Player) (was : Begun) (s : HandledStep) : Type 0 where
  pub first : (rs : List Region) → (plan_at rs was).steps ≡ s.played.small ∷ tail_of (plan_at rs was).steps
  pub refusal : s.played.refused ≡ is_refused s.said
  pub wiring : s.player.wiring ≡ before.wiring

-- the steps lead from one session and request to another
abbrev pub LeadTo : List HandledStep → Player → Begun → Player → Begun → Type 0
LeadTo [] before was now left = (now ≡ before) × (left ≡ was)
LeadTo (s ∷ steps) before was now left = IsNext before was s × LeadTo steps s.player s.left now left

-- the last of the steps gives this answer, and none before it gives one
abbrev pub AnswersLast : Option Answer → List HandledStep → Type 0
AnswersLast answer [] = answer ≡ None
AnswersLast answer (s ∷ []) = s.played.answer ≡ answer
AnswersLast answer (s ∷ (t ∷ steps)) = (s.played.answer ≡ None) × AnswersLast answer (t ∷ steps)

-- where what is shared is told, each step is the machine's, or what a fault of the host leaves of it
abbrev pub ArePlays : {V : Type 0} → Type 0 → Type 0 → List HandledStep → Player → Begun → Shared V → Shared V → Type 0
ArePlays Sound Rise [] before was old new = new ≡ old
ArePlays {V} Sound Rise (s ∷ steps) before was old new =
    (mid : Shared V)
    × RowOrFault Sound Rise (IsPlayRow before s.player was s.left s.played s.said old mid)
    (IsPlayFault before s.player was s.left s.played old mid)
    × ArePlays Sound Rise steps s.player s.left mid new

-- the same where the events and lists that the plan's steps name are there, which is asked of the state before alone
abbrev pub ArePlanned : {V : Type 0} → Type 0 → Type 0 → List HandledStep → Player → Player → Begun → Shared V
    → Shared V → Type 0
ArePlanned Sound Rise steps before now was old new =
    AllNamed before.wiring old.table (plan_at old.guest.regions was).steps
    → ArePlays Sound Rise steps before was old new × (IsKnown old before → IsKnown new now)

-- the calls of the device in these steps
abbrev pub calls_of : List HandledStep → List Call
calls_of [] = []
calls_of (s ∷ steps) = called s.played.small s.said ++ calls_of steps

-- the device refused a call in these steps
abbrev pub has_refusal : List HandledStep → Bool
has_refusal steps = list_any (λ s. s.played.refused) steps

-- Told or not, what was due at the beginning is due, or is answered; or it is an answer that names host or device only
-- where their counts rose.
abbrev pub IsCausedBy : Type 0 → Type 0 → Reply → Reply → Option Answer → Type 0
IsCausedBy Failed Refused was left None = (left ≡ was) ⊎ IsCausedReply Failed Refused left
IsCausedBy Failed Refused was left (Some a) = IsDueFrom was a ⊎ IsCausedAnswer Failed Refused a

-- Steps were played, one after the other, and nothing else was done. Where the device tells its value, it told the
-- outcomes of their calls and is moved by them.
pub record PlaysAll {V D : Type 0} (t : Telling D) (answer : Option Answer) (before now : Player) (was left : Begun)
    (old new : PartsState V D) : Type 0 where
  pub steps : List HandledStep
  pub leads : LeadTo steps before was now left
  pub answers : AnswersLast answer steps
  pub told : Tells old new (ArePlanned old.NeverFails (HasFailed old new) steps before now was)
  pub device : CallsBy t (calls_of steps) old new
  pub refused : has_refusal steps ≡ true → HasRefused old new
  pub caused : IsCausedBy (HasFailed old new) (HasRefused old new) was.plan.reply left.plan.reply answer
  pub wiring : now.wiring ≡ before.wiring
  pub lasts : Lasts old new

-- the answer, if there is one
abbrev pub answer_in : Result Answer Unanswered → Option Answer
answer_in (Ok a) = Some a
answer_in (Err e) = None

-- where what is shared is told, a request is left since its next step has to wait, or none is left
abbrev pub IsLeft : {V D : Type 0} → Result Answer Unanswered → Begun → PartsState V D → PartsState V D → Type 0
IsLeft (Err Waits) left old new = Tells old new (λ a b. WaitsAt b (plan_at b.guest.regions left).steps)
IsLeft result left old new = Unit {0}

-- the queue whose entry in flight a request waits for: other requests never wait
abbrev pub ring_waited : Request → Option ℕ
ring_waited (request.SetVringNum queue n) = Some queue
ring_waited (request.SetVringAddr queue flags desc used avail log) = Some queue
ring_waited (request.SetVringBase queue n) = Some queue
ring_waited (request.GetVringBase queue) = Some queue
ring_waited r = None

abbrev pub HasInFlight : {V : Type 0} → Shared V → Option ℕ → Type 0
HasInFlight h None = ⊥
HasInFlight h (Some queue) = (ring_at h queue).flight ≡ InFlight

-- where the events and lists that its plan's steps name are there, a request waits only while its queue has an entry in
-- flight
abbrev pub WaitsInFlight : {V D : Type 0} → Request → Player → Begun → PartsState V D → PartsState V D
    → Result Answer Unanswered → Type 0
WaitsInFlight r before begun old new (Err Waits) =
    Tells old new (λ a b. AllNamed before.wiring a.table (plan_at a.guest.regions begun).steps
    → HasInFlight b (ring_waited r))
WaitsInFlight r before begun old new result = Unit {0}

-- what is left of a request was played to its end, or to where it is left
pub record Finishes {V D : Type 0} (t : Telling D) (before now : Player) (was left : Begun) (old new : PartsState V D)
    (result : Result Answer Unanswered) : Type 0 where
  pub plays : PlaysAll t (answer_in result) before now was left old new
  pub stays : IsLeft result left old new

-- the request was begun, and its plan was played
pub record Handles {V D : Type 0} (t : Telling D) (request : Request) (before now : Player) (old new : PartsState V D)
    (result : Result Answer Unanswered) : Type 0 where
  pub begun : Begun
  pub left : Begun
  pub plan : IsPlanOf before.wiring before.known before.session request begun
  pub plays : Finishes t before now begun left old new result
  -- told or not, an answer names host or device as its cause only where their counts rose
  pub caused : IfOk result (IsCausedAnswer (HasFailed old new) (HasRefused old new))
  pub waits : WaitsInFlight request before begun old new result

-- memory was refused before the request had its plan: nothing changes
pub record IsUnbegun {V D : Type 0} (before now : Player) (old new : PartsState V D) (result : Result Answer Unanswered)
    : Type 0 where
  pub refused : result ≡ Err OutOfMemory
  pub player : now ≡ before
  pub parts : IsUntouched old new

abbrev pub HandledBy : {V D : Type 0} → Telling D → Request → Player → Player → PartsState V D → PartsState V D
    → Result Answer Unanswered → Type 0
HandledBy t request before now old new result =
    Handles t request before now old new result ⊎ IsUnbegun before now old new result
