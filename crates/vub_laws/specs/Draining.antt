-- Draining: how much work the workers have left, as a number that each step of a worker lowers while the available
-- index words stay. The measure is this project's own.
use Rattle.std.specs.Prelude.{◌≡◌, ℕ, ◌+◌, ◌*◌, ◌-◌, ◌<◌, ◌≤◌, Bool, true, false, ◌&&◌, ◌==◌, not, nat_lt}
use Rattle.std.specs.Prelude.{if◌then◌else◌, List, [], ◌∷◌, length, Option, Some, None, sum_by, slice_set}
use Rattle.std.specs.List.{AllByRecursion, range_with_len}
use Rattle.vub_event.specs.declared.event.Event.{Event}
use Rattle.vub_event.specs.declared.member.Member.{Member}
use Rattle.vub_event.specs.HostTable.{HostTable, event_at, members_at}
use Rattle.vub_event.specs.InterestList.{member_of}
use Rattle.vub_model.specs.declared.play.Play.{Play}
use Rattle.vub_model.specs.declared.play.Play.TheVariants as play
use Rattle.vub_model.specs.declared.party.Party.{Party}
use Rattle.vub_model.specs.declared.party.Party.TheVariants as party
use Rattle.vub_model.specs.declared.phase.Phase.{Phase}
use Rattle.vub_model.specs.declared.phase.Phase.TheVariants.{Idle, Polled, Sweep, Heard, Serving, Taken, Served}
use Rattle.vub_model.specs.declared.phase.Phase.TheVariants.{Stopped}
use Rattle.vub_model.specs.declared.wiring.Place.{Place}
use Rattle.vub_model.specs.RingRecord.{has_addresses}
use Rattle.vub_model.specs.Frame.{is_member}
use Rattle.vub_model.specs.Shared.{Shared, ring_at, pending_at}
use Rattle.vub_model.specs.Service.{Meaning}
use Rattle.vub_model.specs.Wiring.{Wiring, opened_at, place_of}
use Rattle.vub_model.specs.Work.{has_token}
use Rattle.vub_model.specs.World.{World, phase_at}
use Rattle.vub_model.specs.RunOf.{party_of, EachTurn}
use Rattle.vub_model.specs.Running.{index_word}
use Rattle.vub_model.specs.Schedule.{Invariant}
use Rattle.vub_laws.specs.EntriesLeft.{entries_left}
use Rattle.vub_laws.specs.Stretches.{world_after, world_at, stretch}

-- Events left

-- a kick or a listener; the bell and the exit object stand under the number of queues
abbrev pub is_kick_or_listener : ℕ → Option Member → Bool
is_kick_or_listener queues None = false
is_kick_or_listener queues (Some m) = not (m.token == queues)

-- A kick or a listener that is a semaphore has as many events left as its count, since a read takes one off. Any other
-- member has one where its count is above 0.
abbrev pub event_left : Bool → Option Event → ℕ
event_left each None = 0
event_left each (Some e) = if each && e.semaphore then e.count else (if nat_lt 0 e.count then 1 else 0)

-- one is taken off for the event that was polled, while it is a member under its token
abbrev pub polled_off : Phase → List Member → ℕ → ℕ
polled_off (Polled object token) members o = if (object == o) && has_token (member_of members o) token then 1 else 0
polled_off phase members o = 0

abbrev pub object_left : ℕ → List Member → HostTable → Phase → ℕ → ℕ
object_left queues members table phase o =
    if is_member members o
    then event_left (is_kick_or_listener queues (member_of members o)) (event_at table o) - polled_off phase members o
    else 0

-- of all objects, that are members of the list
abbrev pub events_in : ℕ → List Member → HostTable → Phase → ℕ
events_in queues members table phase =
    sum_by (λ o. object_left queues members table phase o) (range_with_len 0 (length table.objects))

abbrev pub events_left : {V : Type 0} → Wiring → Shared V → ℕ → Phase → ℕ
events_left g h worker phase = events_in g.queues (members_at h.table (opened_at g worker).list) h.table phase

-- Entries left

abbrev pub is_place_of : Option Place → ℕ → Bool
is_place_of None worker = false
is_place_of (Some p) worker = p.worker == worker

-- of all queues that have this worker
abbrev pub all_entries_left : {V : Type 0} → Wiring → Shared V → ℕ → ℕ
all_entries_left g h worker =
    sum_by (λ q. if is_place_of (place_of g q) worker then entries_left h.guest (ring_at h q) else 0)
    (range_with_len 0 g.queues)

-- Phases: what a step out of each of them may leave to do, for so many workers

abbrev pub weight : List ℕ → ℕ
weight queues = 1 + 2 * length queues

abbrev pub phase_left : ℕ → Phase → ℕ
phase_left workers Idle = 0
phase_left workers (Polled object token) = 5
phase_left workers Sweep = 4
phase_left workers (Heard token) = 1
phase_left workers (Serving queues) = weight queues
phase_left workers (Taken e queues) = weight queues + (6 * workers + 2)
phase_left workers (Served e reply queues) = weight queues + (6 * workers + 1)
phase_left workers (Stopped cause) = 0

-- The work that a worker has left; none once it has stopped. An event weighs 6, since a poll and what follows it take
-- so many steps at most, and an entry as much more as its call may raise: an event for each worker.
abbrev pub work_left : {V : Type 0} → Wiring → Shared V → ℕ → Phase → ℕ
work_left g h worker (Stopped cause) = 0
work_left g h worker phase =
    6 * events_left g h worker phase + 2 * length (pending_at h worker)
    + (6 * length g.opened + 3) * all_entries_left g h worker + phase_left (length g.opened) phase

abbrev pub measure : {V : Type 0} → World V → ℕ
measure w =
    sum_by (λ k. work_left w.wiring w.shared k (phase_at w.phases k)) (range_with_len 0 (length w.wiring.opened))

-- What holds of the events of every run: members ask for IN alone, nothing is hung up, and no bell is a semaphore.

abbrev pub AsksForIn : Member → Type 0
AsksForIn m = m.set.0 ≡ 1

abbrev pub is_hung_up : Option Event → Bool
is_hung_up None = false
is_hung_up (Some e) = e.hung_up

abbrev pub is_semaphore : Option Event → Bool
is_semaphore None = false
is_semaphore (Some e) = e.semaphore

pub record IsPlain (g : Wiring) (table : HostTable) : Type 0 where
  pub asks : (list : ℕ) → AllByRecursion AsksForIn (members_at table list)
  pub none_hung_up : (object : ℕ) → is_hung_up (event_at table object) ≡ false
  pub bells :
      (worker : ℕ) → worker < length g.opened → is_semaphore (event_at table (opened_at g worker).bell) ≡ false

-- at the opening of a run, and after each turn
pub record EventsArePlain {V : Type 0} (m : Meaning V) (schedule : List ℕ) (plays : List Play)
    (opening : World V) : Type 0 where
  pub first : IsPlain opening.wiring opening.shared.table
  pub later : EachTurn (λ old p l new. IsPlain new.wiring new.shared.table) m schedule plays opening

-- Steps of workers

abbrev pub is_step : Party → Play → ℕ
is_step (party.Worker k) play.Pass = 0
is_step (party.Worker k) l = 1
is_step p l = 0

-- how many a run has
abbrev pub steps : List ℕ → List Play → ℕ
steps [] plays = 0
steps (turn ∷ turns) [] = 0
steps (turn ∷ turns) (l ∷ plays) = is_step (party_of turn) l + steps turns plays

-- the available index word of each ring that has addresses stays
abbrev pub SameWords : {V : Type 0} → World V → World V → Type 0
SameWords old new =
    (queue : ℕ) → has_addresses (ring_at old.shared queue) ≡ true →
    index_word new.shared queue ≡ index_word old.shared queue

-- A step of a worker that leaves the index words lowers the measure, whatever guest, control and other workers have
-- left.
abbrev pub LowersMeasure : {V : Type 0} → World V → Party → Play → World V → Type 0
LowersMeasure old p l new = is_step p l ≡ 1 → SameWords old new → measure new < measure old

-- Such a step as it is told of one worker: in each world with the schedule invariant and plain events in which the
-- worker is in this phase and this is shared, the measure falls.
abbrev pub StepLowers : {V : Type 0} → Wiring → ℕ → Phase → Shared V → Phase → Shared V → Type 0
StepLowers {V} g worker before old now new =
    (w : World V) (calm : ℕ → Bool) → w.wiring ≡ g → w.shared ≡ old → phase_at w.phases worker ≡ before →
    Invariant w calm → IsPlain g old.table →
    SameWords w (record w { shared = new }) →
    measure (record w { shared = new; phases = slice_set w.phases worker now }) < measure w

-- no turn changes the index words
abbrev pub WordsStay : {V : Type 0} → Meaning V → List ℕ → List Play → World V → Type 0
WordsStay m turns plays w = EachTurn (λ old p l new. SameWords old new) m turns plays w

-- neither guest nor control has anything left to do: control begins its next request where it ends one
abbrev pub AreDone : {V : Type 0} → World V → Type 0
AreDone w = (w.guest ≡ []) × (w.control.plan.steps ≡ [])

-- Where guest and control are done, and while the index words stay, as many steps follow as the measure says, at most.
abbrev pub IsDraining : {V : Type 0} → Meaning V → List ℕ → List Play → World V → Type 0
IsDraining m turns plays w =
    AreDone w → WordsStay m turns plays w → steps turns plays + measure (world_after m turns plays w) ≤ measure w

-- In a run each step of a worker that leaves the index words lowers the measure; and from each place at which guest
-- and control are done to any later one, while the index words stay, there are as many steps as it says, at most.
pub record Drains {V : Type 0} (m : Meaning V) (schedule : List ℕ) (plays : List Play)
    (opening : World V) : Type 0 where
  pub lowers : EachTurn LowersMeasure m schedule plays opening
  pub ends :
      (place count : ℕ) →
      IsDraining m (stretch place count schedule) (stretch place count plays) (world_at m schedule plays opening place)
