-- What a queue that was stopped, disabled or reset leaves at its worker: its kick is off the worker's interest list,
-- and its event number is not pending there.
use Rattle.std.specs.Prelude.{◌≡◌, ℕ, true, false, Some, Result, IfOk}
use Rattle.vub_event.specs.HostTable.{has_event, members_at}
use Rattle.vub_proto.specs.declared.answer.Answer.{Answer}
use Rattle.vub_model.specs.Control.{is_refusal}
use Rattle.vub_model.specs.Frame.{is_member}
use Rattle.vub_model.specs.Shared.{Shared, ring_at, pending_at, has_number}
use Rattle.vub_model.specs.Wiring.{Wiring, opened_at, IsPlaced}
use Rattle.vub_vring.specs.PartsState.{PartsState, Tells}
use Rattle.vub_handler.specs.Player.{Player}
use Rattle.vub_handler.specs.Playing.{IsKnown}
use Rattle.vub_requests.specs.declared.unanswered.Unanswered.{Unanswered}

-- the event is off the worker's interest list, and the event number is not pending there
pub record IsOff {V : Type 0} (g : Wiring) (worker number kick : ℕ) (h : Shared V) : Type 0 where
  pub list : is_member (members_at h.table (opened_at g worker).list) kick ≡ false
  pub pending : has_number number (pending_at h worker) ≡ false

-- the queue's worker has neither the kick that the queue had before nor the queue's event number
abbrev pub IsOffItsList : {V : Type 0} → Wiring → ℕ → Shared V → Shared V → Type 0
IsOffItsList g queue old new =
    (worker number kick : ℕ) → IsPlaced g queue worker number → (ring_at old queue).kick ≡ Some kick →
    IsOff g worker number kick new

-- the kick of each ring is an event that is there
abbrev pub KicksAreThere : {V : Type 0} → Shared V → Type 0
KicksAreThere h = (queue kick : ℕ) → (ring_at h queue).kick ≡ Some kick → has_event h.table kick ≡ true

-- after an answer that is no refusal, of a session that knows the rings, whose kicks are there, the queue is off its
-- worker's list
abbrev pub TakesOff : {V D : Type 0} → Player → ℕ → PartsState V D → PartsState V D → Result Answer Unanswered → Type 0
TakesOff before queue old new result =
    IfOk result (λ a. is_refusal a ≡ false
    → Tells old new (λ h k. IsKnown h before → KicksAreThere h → IsOffItsList before.wiring queue h k))

-- the same of every queue
abbrev pub TakesAllOff : {V D : Type 0} → Player → PartsState V D → PartsState V D → Result Answer Unanswered → Type 0
TakesAllOff before old new result = (queue : ℕ) → TakesOff before queue old new result
