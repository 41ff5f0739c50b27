-- What holds of every run of a valid set-up besides that it is faithful: its work drains, and a queue that nothing
-- disturbs is served as alone.
use Rattle.std.specs.Prelude.{◌≡◌, ◌<◌, ◌≤◌, ℕ, Bool, true, false, List, length, take, sum_by, Ok}
use Rattle.vub_mem.specs.declared.region.Region.{Region}
use Rattle.vub_queue.specs.Put.{put_answer}
use Rattle.vub_proto.specs.declared.device_said.DeviceSaid.{DeviceSaid}
use Rattle.vub_queue.specs.Ring.{Ring}
use Rattle.vub_model.specs.declared.constants.Constants.{Constants}
use Rattle.vub_model.specs.declared.entry.Entry.{Entry}
use Rattle.vub_model.specs.declared.party.Party.TheVariants as party
use Rattle.vub_model.specs.declared.play.Play.{Play}
use Rattle.vub_model.specs.declared.play.Play.TheVariants as play
use Rattle.vub_model.specs.declared.setup.Setup.{Setup}
use Rattle.vub_model.specs.declared.small.Small.TheVariants.{Log}
use Rattle.vub_model.specs.Opening.{opening, is_registered}
use Rattle.vub_model.specs.RingRecord.{is_in_flight, limit}
use Rattle.vub_model.specs.RunOf.{IsRun, IsAtRest}
use Rattle.vub_model.specs.Running.{IsRunning, calm_end}
use Rattle.vub_model.specs.Service.{Meaning}
use Rattle.vub_model.specs.Shared.{ring_at}
use Rattle.vub_model.specs.ValidSetup.{IsValid}
use Rattle.vub_model.specs.World.{World, after_control}
use Rattle.vub_laws.specs.Alone.{SparesQueue, KeepsWord, IsUndisturbed, IsAsAlone, placing, placings}
use Rattle.vub_laws.specs.Draining.{Drains, EventsArePlain, steps}
use Rattle.vub_laws.specs.Stretches.{world_after, world_at, stretch}

-- which queues are calm at a place of a run
abbrev pub calm_at : {V : Type 0} → Meaning V → List ℕ → List Play → World V → (ℕ → Bool) → ℕ → ℕ → Bool
calm_at m schedule plays opening calm place = calm_end m (take place schedule) (take place plays) opening calm

-- A stretch of a run serves the queue as alone with this value of the service, if nothing disturbs the queue in it, and
-- no entry of the queue is in flight where it begins.
abbrev pub ServesAsAlone : {V : Type 0} → Meaning V → V → ℕ → List ℕ → List Play → World V → (ℕ → Bool) → Type 0
ServesAsAlone m v queue turns plays w calm =
    is_in_flight (ring_at w.shared queue).flight ≡ false →
    IsUndisturbed m v queue turns plays w →
    IsAsAlone m v queue turns plays w (world_after m turns plays w) (calm_end m turns plays w calm)

-- each stretch of a run, each queue, and whatever value the service has
abbrev pub StandsAlone : {V : Type 0} → Meaning V → List ℕ → List Play → World V → (ℕ → Bool) → Type 0
StandsAlone {V} m schedule plays opening calm =
    (place count queue : ℕ) (v : V) →
    ServesAsAlone m v queue (stretch place count schedule) (stretch place count plays)
    (world_at m schedule plays opening place) (calm_at m schedule plays opening calm place)

-- before the first step of a worker no entry is in flight
abbrev pub NoneFliesAtFirst : {V : Type 0} → Meaning V → List ℕ → List Play → World V → Type 0
NoneFliesAtFirst m schedule plays opening =
    (place queue : ℕ) → steps (take place schedule) (take place plays) ≡ 0 →
    is_in_flight (ring_at (world_at m schedule plays opening place).shared queue).flight ≡ false

-- An orderly run of the set-up from its opening to this world.
pub record IsOrderly {V : Type 0} (m : Meaning V) (constants : Constants) (setup : Setup) (v : V)
    (schedule : List ℕ) (plays : List Play) (closing : World V) : Type 0 where
  pub last : closing ≡ world_after m schedule plays (opening constants setup v)
  pub plain : EventsArePlain m schedule plays (opening constants setup v)
  pub drains : Drains m schedule plays (opening constants setup v)
  pub alone : StandsAlone m schedule plays (opening constants setup v) (is_registered constants setup)
  pub free : NoneFliesAtFirst m schedule plays (opening constants setup v)

-- Laws

-- every run of a valid set-up is orderly, if its schedule has fewer turns than the limit
abbrev pub RunsAreOrderly : Type 0 → Type 0
RunsAreOrderly V =
    (m : Meaning V) (constants : Constants) (setup : Setup) (v : V) (schedule : List ℕ) (plays : List Play)
    (closing : World V) →
    length schedule < limit → IsValid constants setup → IsRun m schedule plays (opening constants setup v) closing →
    IsOrderly m constants setup v schedule plays closing

-- The queue was served to its end: the run ends at rest, with the queue calm and running.
pub record IsServedOut {V : Type 0} (queue : ℕ) (z : World V) (calm : ℕ → Bool) : Type 0 where
  pub rests : IsAtRest z
  pub running : IsRunning z queue
  pub settled : calm queue ≡ true

-- Two runs that serve a queue as alone and to its end, from worlds in which memory and the queue's ring are the same,
-- use the same entries with the same replies, and write the same bytes at the same places, whatever their schedules.
abbrev pub SchedulesAgree : Type 0 → Type 0
SchedulesAgree V =
    (m : Meaning V) (v : V) (queue : ℕ) (turns others : List ℕ) (plays played : List Play) (w x y z : World V)
    (calm calm' : ℕ → Bool) →
    w.shared.guest ≡ x.shared.guest → ring_at w.shared queue ≡ ring_at x.shared queue →
    IsAsAlone m v queue turns plays w y calm → IsServedOut queue y calm →
    IsAsAlone m v queue others played x z calm' → IsServedOut queue z calm' →
    placings m queue turns plays w ≡ placings m queue others played x

-- A placing pairs each byte with its place, one for one: where the put is not refused, and the reply is no longer than
-- the chain's segments hold.
abbrev pub PlacesEachByte : Type 0
PlacesEachByte =
    (regions : List Region) (r : Ring) (e : Entry) (reply : List ℕ) (wanted told : Bool) →
    put_answer regions r e.chain reply wanted ≡ Ok told →
    length reply ≤ sum_by (λ s. s.len) e.chain.segments →
    length (placing regions r e reply).spots ≡ length (placing regions r e reply).bytes

-- A step of control that gives the regions a log, or refuses it, spares each queue and leaves its available index word.
abbrev pub LogsDisturbNoQueue : Type 0 → Type 0
LogsDisturbNoQueue V =
    (w : World V) (queue object offset size : ℕ) (said : DeviceSaid) →
    let step = Log object offset size in
    SparesQueue queue w party.Control (play.Control step said) (after_control w step said)
    × KeepsWord queue w party.Control (play.Control step said) (after_control w step said)
