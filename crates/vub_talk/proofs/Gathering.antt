-- A run of the machine is a dialog of driver and device: each of its turns is a step of the dialog, or a part of one, or
-- leaves it.
use Rattle.std.proofs.Common.{◌≡◌, ◌≢◌, ℕ, ◌+◌, ◌^◌, ◌<◌, ◌≤◌, false, List, [], ◌∷◌, ◌++◌, length, map, Some, None}
use Rattle.vub_queue.specs.declared.chain.Chain.{Chain}
use Rattle.vub_model.specs.declared.phase.Phase.{Phase}
use Rattle.vub_model.specs.declared.phase.Phase.TheVariants.{Taken, Served}
use Rattle.vub_model.specs.declared.setup.Guest.{Guest as Action}
use Rattle.vub_model.specs.declared.setup.Guest.TheVariants.{Signal}
use Rattle.vub_model.specs.declared.small.Small.{Small}
use Rattle.vub_model.specs.RingRecord.{is_on, is_in_flight}
use Rattle.vub_model.specs.Service.{Meaning}
use Rattle.vub_model.specs.Shared.{Shared, ring_at}
use Rattle.vub_model.specs.World.{phase_at}
use Rattle.vub_driver.specs.Machine.{Asked, World as Dialog}
use Rattle.vub_driver.specs.Places.{half_of}
use Rattle.vub_driver.specs.State.{State}
use Rattle.vub_driver.specs.declared.done.Done.{Done}
use Rattle.vub_driver.specs.Writings.{writes_of}
use Rattle.vub_driver.proofs.Kept.{Keeps}
use Rattle.vub_talk.specs.declared.ask.Ask.{Ask}
use Rattle.vub_talk.specs.Asking.{AreSmall, region}
use Rattle.vub_talk.specs.Batches.{asks_stored, store_of}
use Rattle.vub_talk.specs.Replies.{asked_by, replies_to, value_after}
use Rattle.vub_talk.specs.Talking.{state_asked}
use Rattle.vub_talk.proofs.Ahead.{Ahead}
use Rattle.vub_talk.proofs.Telling.{Tells}

-- what the driver comes to: its state in the end, what was collected before, and how much of it was put before
pub record Goal : Type 0 where
  pub state : State
  pub answers : List Done
  pub before : ℕ

-- what the guest does for these asks, from number n on
abbrev pub actions_from : State → ℕ → List Ask → List Action
actions_from s n asks = asks_stored s.layout n asks ++ Signal 1 ∷ []

-- How far the guest is: between two asks, within one of which the request, the chain or the slot was stored last, or at
-- the end.
pub data Stage (d : Dialog) (rest : List Ask) (actions : List Action) : Type 0 where
  between : actions ≡ actions_from d.driver d.driver.submitted rest → Stage d rest actions
  requested : (a : Ask) → (more : List Ask) → rest ≡ a ∷ more →
      (let w = writes_of d.driver.layout d.driver.submitted a.request a.room in actions ≡ store_of w.descriptors ∷ store_of w.slot ∷ store_of w.index ∷ actions_from d.driver (d.driver.submitted + 1) more) →
      Ahead d (asked_by a) (d.driver.submitted + 1) d.driver.submitted d.driver.submitted → Stage d rest actions
  chained : (a : Ask) → (more : List Ask) → rest ≡ a ∷ more →
      (let w = writes_of d.driver.layout d.driver.submitted a.request a.room in actions ≡ store_of w.slot ∷ store_of w.index ∷ actions_from d.driver (d.driver.submitted + 1) more) →
      Ahead d (asked_by a) (d.driver.submitted + 1) (d.driver.submitted + 1) d.driver.submitted → Stage d rest actions
  slotted : (a : Ask) → (more : List Ask) → rest ≡ a ∷ more →
      (let w = writes_of d.driver.layout d.driver.submitted a.request a.room in actions ≡ store_of w.index ∷ actions_from d.driver (d.driver.submitted + 1) more) →
      Ahead d (asked_by a) (d.driver.submitted + 1) (d.driver.submitted + 1) (d.driver.submitted + 1) → Stage d rest actions
  ended : rest ≡ [] → actions ≡ [] → Stage d rest actions

abbrev pub asked_in : Chain → Asked
asked_in c = record { request = c.request; room = c.room }

-- what a worker has in hand is what the dialog holds: taken and not served, or served and not put
abbrev pub Hand : {V : Type 0} → Meaning V → V → Dialog → ℕ → V → ℕ → Phase → Type 0
Hand m v d holder service k (Taken e queues) =
    (e.queue ≡ 0) × (d.held ≡ Some e.chain) × (k ≡ holder) ×
    ((before : List Asked) × (d.taken ≡ before ++ asked_in e.chain ∷ []) × (service ≡ value_after m v before) × (d.replies ≡ replies_to m v before))
Hand m v d holder service k (Served e reply queues) =
    (e.queue ≡ 0) × (d.held ≡ Some e.chain) × (k ≡ holder) × (length reply ≤ e.chain.room) × (service ≡ value_after m v d.taken) × (d.replies ++ reply ∷ [] ≡ replies_to m v d.taken)
Hand m v d holder service k phase = Unit {0}

-- What the machine is at, as a dialog: of a service that began with v, where all of these are asked in the end, and the
-- driver ends so.
pub record Gathers {V : Type 0} (m : Meaning V) (v : V) (all : List Asked) (end : Goal) (h : Shared V) (phases : List Phase) (actions : List Action) (steps : List Small) : Type 0 where
  pub dialog : Dialog
  pub rest : List Ask
  pub holder : ℕ
  pub keeps : Keeps region dialog
  pub guest : h.guest ≡ dialog.guest
  pub ring : (ring_at h 0).queue ≡ dialog.ring
  pub off : dialog.ring.event_idx ≡ false
  pub there : 0 < length h.rings
  pub others : (q : ℕ) → q ≢ 0 → is_on (ring_at h q) ≡ false
  pub quiet : steps ≡ []
  pub free : is_in_flight (ring_at h 0).flight ≡ false → dialog.held ≡ None
  pub hands : (k : ℕ) → Hand m v dialog holder h.service k (phase_at phases k)
  pub served : dialog.held ≡ None → (h.service ≡ value_after m v dialog.taken) × (dialog.replies ≡ replies_to m v dialog.taken)
  pub asked : dialog.asked ++ map (λ a. asked_by a) rest ≡ all
  pub room : dialog.driver.submitted + length rest ≤ dialog.driver.collected + half_of dialog.driver.layout
  pub counted : dialog.driver.submitted + length rest < 2 ^ 64
  pub small : AreSmall dialog.driver.layout rest
  pub state : state_asked dialog.driver rest ≡ end.state
  pub answered : dialog.answers ≡ end.answers
  pub low : dialog.driver.collected ≤ end.before
  pub tells : Tells end.before (length dialog.replies) h
  pub stage : Stage dialog rest actions
