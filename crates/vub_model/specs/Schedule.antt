-- The schedule invariant: how workers, rings, events, interest lists and pending sets stand to one another between two
-- steps, so that no kick is lost. It holds at the opening and after every step. What it says of kicks, flags, lists and
-- claims it says of the frame, which a step of the guest or of a worker leaves.
use Rattle.std.specs.Prelude.{◌≡◌, ◌≢◌, ◌⊎◌, ℕ, ◌<◌, ◌^◌, Bool, true, false, ◌&&◌, List, [], ◌∷◌, length}
use Rattle.std.specs.Prelude.{slice_index_or, Some, None}
use Rattle.std.specs.List.{AllByRecursion}
use Rattle.vub_event.specs.declared.member.Member.{Member}
use Rattle.vub_event.specs.Counter.{has_bits}
use Rattle.vub_event.specs.HostTable.{members_at}
use Rattle.vub_model.specs.declared.flight.Flight.TheVariants as flight
use Rattle.vub_model.specs.declared.phase.Phase.{Phase}
use Rattle.vub_model.specs.declared.phase.Phase.TheVariants.{Polled, Sweep, Serving, Taken, Served}
use Rattle.vub_proto.specs.declared.request.Request.{Request}
use Rattle.vub_proto.specs.declared.request.Request.TheVariants as request
use Rattle.vub_model.specs.declared.ring_op.RingOp.{RingOp}
use Rattle.vub_model.specs.declared.ring_op.RingOp.TheVariants as op
use Rattle.vub_model.specs.declared.small.Small.{Small}
use Rattle.vub_model.specs.declared.small.Small.TheVariants.{Claim, Release, Add, Delete, Listen, Unlisten, Bell}
use Rattle.vub_model.specs.declared.small.Small.TheVariants.{Remove, Insert, Set, Info, Answer as Answering}
use Rattle.vub_model.specs.Plans.{Reply, says, next_of}
use Rattle.vub_model.specs.FrameSteps.{passes, frame_step}
use Rattle.vub_model.specs.RingRecord.{is_on, has_addresses}
use Rattle.vub_model.specs.EntryNumber.{has_left}
pub use Rattle.vub_model.specs.Frame.{known_at, claim_at, list_at, is_member}
use Rattle.vub_model.specs.Frame.{Frame, frame_of, is_there}
use Rattle.vub_model.specs.Shared.{Shared, ring_at, count_at, pending_at, has_number}
use Rattle.vub_model.specs.Wiring.{Wiring, opened_at, IsPlaced, HasWorker}
use Rattle.vub_model.specs.World.{World, phase_at}
use Rattle.vub_model.specs.Running.{HasStopped}

-- Places

-- a queue that has this worker has this event number
abbrev pub IsNumber : Wiring → ℕ → ℕ → Type 0
IsNumber g worker number = (queue : ℕ) × IsPlaced g queue worker number

-- the member is the kick of the queue that has its token as event number at this worker
pub record IsKick (g : Wiring) (f : Frame) (worker : ℕ) (m : Member) : Type 0 where
  pub queue : ℕ
  pub placed : IsPlaced g queue worker m.token
  pub kick : (known_at f queue).kick ≡ Some m.object

-- the member is the worker's bell or its exit object, under the number of queues, and no queue claims it
pub record IsBellOrExit (g : Wiring) (f : Frame) (worker : ℕ) (m : Member) : Type 0 where
  pub token : m.token ≡ g.queues
  pub object : (m.object ≡ (opened_at g worker).bell) ⊎ ((opened_at g worker).exit ≡ Some m.object)
  pub free : claim_at f m.object ≡ None

-- the member is a listener: its token is above the number of queues, and it is no bell, not the worker's exit object
-- and claimed by no queue
pub record IsListener (g : Wiring) (f : Frame) (worker : ℕ) (m : Member) : Type 0 where
  pub token : g.queues < m.token
  pub free : claim_at f m.object ≡ None
  pub no_bell : (other : ℕ) → other < length g.opened → (opened_at g other).bell ≡ m.object → ⊥
  pub no_exit : (opened_at g worker).exit ≡ Some m.object → ⊥

-- it asks for IN, and is one of these
pub record IsOwn (g : Wiring) (f : Frame) (worker : ℕ) (m : Member) : Type 0 where
  pub asks : has_bits m.set.0 1 ≡ true
  pub is : IsKick g f worker m ⊎ (IsBellOrExit g f worker m ⊎ IsListener g f worker m)

-- Members, bells and claims belong together.
pub record Linked (g : Wiring) (f : Frame) : Type 0 where
  pub members : (worker : ℕ) → worker < length g.opened → AllByRecursion (IsOwn g f worker) (list_at g f worker)
  -- each worker listens to its exit object, if it has one, and to its bell, which is its own and claimed by no queue
  pub exit :
      (worker object : ℕ) → worker < length g.opened → (opened_at g worker).exit ≡ Some object →
      is_member (list_at g f worker) object ≡ true
  pub bell : (worker : ℕ) → worker < length g.opened → is_member (list_at g f worker) (opened_at g worker).bell ≡ true
  pub free : (worker : ℕ) → worker < length g.opened → claim_at f (opened_at g worker).bell ≡ None
  pub exit_free :
      (worker object : ℕ) → worker < length g.opened → (opened_at g worker).exit ≡ Some object →
      claim_at f object ≡ None
  pub apart :
      (v w : ℕ) → v < length g.opened → w < length g.opened → (opened_at g v).bell ≡ (opened_at g w).bell → v ≡ w
  -- a ring's kick is claimed by it
  pub claimed : (queue kick : ℕ) → (known_at f queue).kick ≡ Some kick → claim_at f kick ≡ Some queue

-- the kick of a queue is a member of its worker's list exactly where the queue is ready and enabled
abbrev pub Settled : Wiring → Frame → Type 0
Settled g f =
    (queue worker number kick : ℕ) → worker < length g.opened → IsPlaced g queue worker number →
    (known_at f queue).kick ≡ Some kick →
    is_member (list_at g f worker) kick ≡ ((known_at f queue).ready && (known_at f queue).enabled)

-- Plans: what is asked of the frame at each step of the plan that is left, so that it is settled in the end, and
-- wherever a refusal may be answered in place of the rest.

-- the wiring has a place for what it names
pub record Wired (g : Wiring) (f : Frame) : Type 0 where
  pub known : length f.known ≡ g.queues
  pub events : length f.claims ≡ length f.events
  pub placed : (queue worker number : ℕ) → IsPlaced g queue worker number → worker < length g.opened
  pub within : (worker : ℕ) → worker < length g.opened → (opened_at g worker).list < length f.lists
  pub bells : (worker : ℕ) → worker < length g.opened → is_there f (opened_at g worker).bell ≡ true
  pub lists :
      (v w : ℕ) → v < length g.opened → w < length g.opened → (opened_at g v).list ≡ (opened_at g w).list → v ≡ w

abbrev pub First : List Small → Small → Type 0
First [] s = ⊥
First (t ∷ rest) s = t ≡ s

-- the kick of the queue is no member of its worker's list
abbrev pub Quiet : Wiring → Frame → ℕ → Type 0
Quiet g f queue =
    (worker number kick : ℕ) → worker < length g.opened → IsPlaced g queue worker number →
    (known_at f queue).kick ≡ Some kick →
    is_member (list_at g f worker) kick ≡ false

-- the object is the kick of the queue with this event number at this worker
pub record IsKickAt (g : Wiring) (f : Frame) (worker number object : ℕ) : Type 0 where
  pub queue : ℕ
  pub placed : IsPlaced g queue worker number
  pub kick : (known_at f queue).kick ≡ Some object

abbrev pub NoBell : Wiring → ℕ → Type 0
NoBell g object = (worker : ℕ) → worker < length g.opened → (opened_at g worker).bell ≡ object → ⊥

-- what is asked of a change of a ring: kick and flags that call for a registration change while there is none
abbrev pub SetFits : Wiring → Frame → ℕ → RingOp → Type 0
SetFits g f queue (op.SetEnabled true) = ((known_at f queue).enabled ≡ true) ⊎ Quiet g f queue
SetFits g f queue (op.SetReady true) = ((known_at f queue).ready ≡ true) ⊎ Quiet g f queue
SetFits g f queue (op.SetKick new) =
    ((known_at f queue).kick ≡ new) ⊎ (Quiet g f queue × ((kick : ℕ) → new ≡ Some kick → claim_at f kick ≡ Some queue))
SetFits g f queue (op.SetInfo desc avail used next_used) = ⊥
SetFits g f queue (op.SetBase n) = n < 2 ^ 16
SetFits g f queue op.Taken = ⊥
SetFits g f queue op.Put = ⊥
SetFits g f queue op.Hold = ⊥
SetFits g f queue o = Unit {0}

-- an answered base is that of a ring that is not ready
abbrev pub ReplyFits : Frame → Reply → Type 0
ReplyFits f (says a) = Unit {0}
ReplyFits f (next_of queue) = (known_at f queue).ready ≡ false

abbrev pub Fits : Wiring → Frame → Reply → Small → List Small → Type 0
Fits g f reply (Claim object queue) rest = Settled g f × (is_there f object ≡ true) × NoBell g object
Fits g f reply (Release object) rest = (queue : ℕ) → (known_at f queue).kick ≡ Some object → ⊥
Fits g f reply (Add worker object token) rest = IsKickAt g f worker token object × First rest (Insert worker token)
Fits g f reply (Delete worker object) rest = (number : ℕ) × IsKickAt g f worker number object
Fits g f reply (Listen worker object token) rest =
    Settled g f × (worker < length g.opened) × (g.queues < token) × NoBell g object × (is_there f object ≡ true)
Fits g f reply (Unlisten worker object above) rest =
    Settled g f × (worker < length g.opened) × (above ≡ g.queues) × (is_there f object ≡ true)
Fits g f reply (Bell object) rest = Unit {0}
Fits g f reply (Remove worker number) rest =
    (object : ℕ) × IsKickAt g f worker number object × First rest (Delete worker object)
Fits g f reply (Insert worker number) rest = IsNumber g worker number × First rest (Bell (opened_at g worker).bell)
Fits g f reply (Set queue o) rest = (queue < g.queues) × SetFits g f queue o
Fits g f reply (Info queue desc avail used) rest = queue < g.queues
Fits g f reply Answering rest = (rest ≡ []) × ReplyFits f reply
Fits g f reply s rest = Settled g f

-- the plan that is left fits the frame at each of its steps, and settles it
abbrev pub Safe : Wiring → Frame → Reply → List Small → Type 0
Safe g f reply [] = Settled g f
Safe g f reply (s ∷ rest) = Fits g f reply s rest × (passes g f s ≡ true → Safe g (frame_step g f s) reply rest)

-- a new kick is an event of the set-up, which is no bell, and so is a listener; a listener that leaves is an event too
abbrev pub RequestFits : Wiring → List Bool → Request → Type 0
RequestFits g events (request.SetVringKick queue (Some object)) =
    (slice_index_or events object false ≡ true) × NoBell g object
RequestFits g events (request.RegisterListener worker object set token) =
    (slice_index_or events object false ≡ true) × NoBell g object
RequestFits g events (request.UnregisterListener worker object set token) = slice_index_or events object false ≡ true
RequestFits g events r = Unit {0}

-- the event that a request of a listener names is there
abbrev pub NamesThere : List Bool → Request → Type 0
NamesThere events (request.RegisterListener worker object set token) = slice_index_or events object false ≡ true
NamesThere events (request.UnregisterListener worker object set token) = slice_index_or events object false ≡ true
NamesThere events r = Unit {0}

-- Phases

-- the queues that a worker still serves
abbrev pub list_of : Phase → List ℕ
list_of (Serving queues) = queues
list_of (Taken e queues) = queues
list_of (Served e reply queues) = queues
list_of phase = []

-- a polled event is the bell's or the exit object's, or it has the event number of a queue that has this worker, or it
-- is a listener's; and the queues that the worker serves have this worker
abbrev pub PhaseFits : Wiring → ℕ → Phase → Type 0
PhaseFits g worker (Polled object token) = (token ≡ g.queues) ⊎ (IsNumber g worker token ⊎ (g.queues < token))
PhaseFits g worker phase = AllByRecursion (λ q. HasWorker g q worker) (list_of phase)

-- the worker has an entry of this queue in hand
abbrev pub HasInHand : Phase → ℕ → Type 0
HasInHand (Taken e queues) queue = e.queue ≡ queue
HasInHand (Served e reply queues) queue = e.queue ≡ queue
HasInHand phase queue = ⊥

-- the ring has its last entry in flight and its addresses, and is ready: a ring does not cease to be while one is in
-- flight
pub record IsFlying {V : Type 0} (h : Shared V) (queue : ℕ) : Type 0 where
  pub flight : (ring_at h queue).flight ≡ flight.InFlight
  pub addresses : has_addresses (ring_at h queue) ≡ true
  pub ready : (ring_at h queue).queue.ready ≡ true

-- Bells

-- the bell of a worker is above zero, or its pending numbers are due
pub data Rung (bell_count : ℕ) (phase : Phase) : Type 0 where
  ringing : 0 < bell_count → Rung bell_count phase
  sweeping : phase ≡ Sweep → Rung bell_count phase

-- a worker with something pending hears of it, or control is about to ring its bell
abbrev pub AllRung : {V : Type 0} → World V → Type 0
AllRung w =
    (worker : ℕ) → worker < length w.wiring.opened → pending_at w.shared worker ≢ [] →
    Rung (count_at w.shared.table (opened_at w.wiring worker).bell) (phase_at w.phases worker)
    ⊎ First w.control.plan.steps (Bell (opened_at w.wiring worker).bell)

-- Kicks

-- what keeps a queue with an entry left awake: its kick is above zero, its event number is pending, or its worker
-- serves it
pub data Woken (kick_count : ℕ) (pending : List ℕ) (phase : Phase) (queue number : ℕ) : Type 0 where
  signalled : 0 < kick_count → Woken kick_count pending phase queue number
  waiting : has_number number pending ≡ true → Woken kick_count pending phase queue number
  listed : has_number queue (list_of phase) ≡ true → Woken kick_count pending phase queue number

-- or control is about to make the number pending, or to take the kick off the list
abbrev pub IsHandled : List Small → ℕ → ℕ → ℕ → Type 0
IsHandled steps worker number kick = First steps (Insert worker number) ⊎ First steps (Delete worker kick)

-- a calm running queue with an entry left, whose kick is a member, is awake
abbrev pub Awake : {V : Type 0} → World V → (ℕ → Bool) → Type 0
Awake w calm =
    (queue worker number kick : ℕ) → IsPlaced w.wiring queue worker number →
    (HasStopped (phase_at w.phases worker) → ⊥) →
    (ring_at w.shared queue).kick ≡ Some kick →
    is_member (members_at w.shared.table (opened_at w.wiring worker).list) kick ≡ true →
    is_on (ring_at w.shared queue) ≡ true → has_addresses (ring_at w.shared queue) ≡ true → calm queue ≡ true →
    has_left w.shared.guest (ring_at w.shared queue) ≡ true →
    Woken (count_at w.shared.table kick) (pending_at w.shared worker) (phase_at w.phases worker) queue number
    ⊎ IsHandled w.control.plan.steps worker number kick

-- The schedule invariant, where these queues are calm.
pub record Invariant {V : Type 0} (w : World V) (calm : ℕ → Bool) : Type 0 where
  pub rings_size : length w.shared.rings ≡ w.wiring.queues
  pub phases_size : length w.phases ≡ length w.wiring.opened
  pub pending_size : length w.shared.pending ≡ length w.wiring.opened
  pub linked : Linked w.wiring (frame_of w.shared)
  pub wired : Wired w.wiring (frame_of w.shared)
  pub safe : Safe w.wiring (frame_of w.shared) w.control.plan.reply w.control.plan.steps
  pub requests : AllByRecursion (RequestFits w.wiring (frame_of w.shared).events) w.control.requests
  -- a pending number is that of a queue that has this worker
  pub numbers :
      (worker number : ℕ) → has_number number (pending_at w.shared worker) ≡ true → IsNumber w.wiring worker number
  pub phases : (worker : ℕ) → PhaseFits w.wiring worker (phase_at w.phases worker)
  -- an entry in flight is in the hand of its queue's worker, and an entry in hand is in flight, of a ring with
  -- addresses
  pub flies :
      (queue : ℕ) → (ring_at w.shared queue).flight ≡ flight.InFlight →
      (worker : ℕ) × HasWorker w.wiring queue worker × HasInHand (phase_at w.phases worker) queue
  pub hands :
      (worker queue : ℕ) → HasInHand (phase_at w.phases worker) queue →
      HasWorker w.wiring queue worker × IsFlying w.shared queue
  pub rung : AllRung w
  pub awake : Awake w calm
