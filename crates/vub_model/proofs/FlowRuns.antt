-- Flow, the replay of the service and the headline hold along every run.
use Rattle.std.proofs.Common.{◌≡◌, ℕ, ◌<◌, inl, inr, Bool, true, false, List, [], ◌∷◌, ◌++◌, length, map, Option, Some, None, refl, sym, ap, ◌∙◌, subst, arith}
use Rattle.std.proofs.lemmas.List.{append-nil}
use Rattle.vub_proto.specs.declared.used.Used.{Used}
use Rattle.vub_model.specs.declared.entry.Entry.{Entry}
use Rattle.vub_model.specs.declared.flight.Flight.{Flight}
use Rattle.vub_model.specs.declared.flight.Flight.TheVariants as flight
use Rattle.vub_model.specs.declared.play.Play.{Play}
use Rattle.vub_model.specs.declared.small.Small.{Small}
use Rattle.vub_model.specs.declared.small.Small.TheVariants.{Claim, Release, Add, Delete, Listen, Unlisten, Bell, Remove, Insert, Set, Info, Table, Log, Device, Answer as Answering}
use Rattle.vub_model.specs.Control.{small_after, MayControl}
use Rattle.vub_model.specs.declared.play.Play.TheVariants as play
use Rattle.vub_model.specs.declared.party.Party.{Party}
use Rattle.vub_model.specs.declared.party.Party.TheVariants as party
use Rattle.vub_model.specs.declared.phase.Phase.{Phase}
use Rattle.vub_model.specs.declared.phase.Phase.TheVariants.{Idle, Sweep, Heard, Taken, Served, Stopped}
use Rattle.vub_model.specs.declared.records.Take.{Take}
use Rattle.vub_model.specs.declared.setup.Guest.{Guest}
use Rattle.vub_model.specs.declared.setup.Guest.TheVariants.{Store, Signal, Harvest}
use Rattle.vub_model.specs.Shared.{Shared, ring_at}
use Rattle.vub_model.specs.Service.{Meaning}
use Rattle.vub_model.specs.Wiring.{HasWorker, Wiring}
use Rattle.vub_model.specs.Work.{Local, MayWork, after_work, after_take, after_put, after_said, after_sweep, after_heard, called, used, put_said}
use Rattle.vub_model.specs.World.{World, May, after, after_guest, after_local, phase_at, take_of, used_of, after_control}
use Rattle.vub_model.specs.RunOf.{IsRun, next, party_of}
use Rattle.vub_model.specs.Running.{InHand, InFlightOrHeld}
use Rattle.vub_model.specs.Headline.{Asked, asked_take, asked_at, asked, OnceInOrder, IsReplay}
use Rattle.vub_model.proofs.Openings.{IsFresh, IsWaiting}
use Rattle.vub_model.proofs.Cases.{work-cases, heard-leaf, event-shared, take-leaf, none-leaf, said-cases}
use Rattle.vub_model.proofs.Turns.{turn-cases, turn-next}
use Rattle.vub_model.proofs.Owners.{Owned, OwnPhase, within-phases}
use Rattle.vub_model.proofs.Flow.{Flow, FlowAt, FliesIn, NoneFlies, queue_in}
use Rattle.vub_model.proofs.FlowSteps.{asked_by, quiet, event, take, serve, put, serving-none}
use Rattle.vub_proto.specs.declared.device_said.DeviceSaid.{DeviceSaid}

asked-same : {V : Type 0} (m : Meaning V) (w : World V) (k : ℕ) (l : Play) → asked_at m w (party.Worker k) l ≡ asked_by m w.shared.service (phase_at w.phases k) l
asked-same m w k play.Serve = refl
asked-same m w k l = refl

-- a control step asks no service
service-small : {V : Type 0} (g : Wiring) (h : Shared V) (s : Small) → (small_after g h s).service ≡ h.service
service-small g h (Claim object queue) = refl
service-small g h (Release object) = refl
service-small g h (Add worker object token) = refl
service-small g h (Delete worker object) = refl
service-small g h (Listen worker object token) = refl
service-small g h (Unlisten worker object above) = refl
service-small g h (Bell object) = refl
service-small g h (Remove worker number) = refl
service-small g h (Insert worker number) = refl
service-small g h (Set queue o) = refl
service-small g h (Info queue desc avail used) = refl
service-small g h (Table change) = refl
service-small g h (Log object offset size) = refl
service-small g h (Device call) = refl
service-small g h Answering = refl

module _ {V : Type 0} (m : Meaning V) (w : World V) (calls : List Asked) (flow : Flow w calls) (owned : Owned w) where
  flow-inside : (k : ℕ) → k < length w.phases → (phase : Phase) (l : Play) → MayWork w.wiring k w.shared phase l → phase_at w.phases k ≡ phase → OwnPhase w.wiring k phase → Flow (after_local w k l phase (after_work m w.wiring k w.shared phase l)) (calls ++ asked_by m w.shared.service phase l)
  flow-inside k within =
      work-cases w.wiring k w.shared (λ phase l. phase_at w.phases k ≡ phase → OwnPhase w.wiring k phase → Flow (after_local w k l phase (after_work m w.wiring k w.shared phase l)) (calls ++ asked_by m w.shared.service phase l))
      (λ object ready was own. quiet w calls flow k within Idle (after_work m w.wiring k w.shared Idle (play.Poll object)) was refl (λ h. h) refl refl)
      (λ object token was own. event w calls flow k within w.wiring object token was)
      (λ was own. quiet w calls flow k within Sweep (after_sweep w.wiring k w.shared) was refl (λ h. h) (serving-none _) refl)
      (λ token said was own. quiet w calls flow k within (Heard token) (record { shared = w.shared; phase = after_heard said }) was refl (λ h. h) (heard-leaf (λ p. queue_in p ≡ None) refl (λ n. refl) said) refl)
      (λ queues was own. take w calls flow k within queues own was)
      (λ e queues was own. serve w calls flow k within m e queues was)
      (λ e reply queues was own. put w calls flow k within e reply queues own was)

  flow-worker : (k : ℕ) (l : Play) → MayWork w.wiring k w.shared (phase_at w.phases k) l → Flow (after m w (party.Worker k) l) (calls ++ asked_by m w.shared.service (phase_at w.phases k) l)
  flow-worker k l may = flow-inside k (within-phases w.wiring w.shared w.phases k l may) (phase_at w.phases k) l may refl (owned k)

  flow-guest : (actions : List Guest) → Flow (after_guest w actions) (calls ++ [])
  flow-guest [] = rw (append-nil calls) flow
  flow-guest (Store object offset bytes ∷ actions) = rw (append-nil calls) flow
  flow-guest (Harvest object word ∷ actions) = rw (append-nil calls) flow
  flow-guest (Signal object ∷ actions) = rw (append-nil calls) flow

  -- a control step moves no entry
  flow-control : (s : Small) (said : DeviceSaid) → ((q : ℕ) → (ring_at (small_after w.wiring w.shared s) q).flight ≡ (ring_at w.shared q).flight) → Flow (after_control w s said) (calls ++ [])
  flow-control s said flights q = rw (append-nil calls, flights q) (flow q)

  module _ (flights : (s : Small) (said : DeviceSaid) → MayControl w.shared w.control.plan.steps s said → (q : ℕ) → (ring_at (small_after w.wiring w.shared s) q).flight ≡ (ring_at w.shared q).flight) where
    pub flow-step : (p : Party) (l : Play) → May w p l → Flow (after m w p l) (calls ++ asked_at m w p l)
    flow-step party.Guest play.Guest may = flow-guest w.guest
    flow-step (party.Worker k) l may = subst (λ c. Flow (after m w (party.Worker k) l) (calls ++ c)) (sym (asked-same m w k l)) (flow-worker k l may)
    flow-step party.Control (play.Control s said) may = flow-control s said (flights s said may)
    flow-step p l may = absurd may

-- Turns and runs

pub asked-pass : {V : Type 0} (m : Meaning V) (w : World V) (p : Party) → asked_at m w p play.Pass ≡ []
asked-pass m w party.Guest = refl
asked-pass m w party.Control = refl
asked-pass m w (party.Worker k) = refl

-- One queue

-- a queue's entries went their way, but for one in flight or held
abbrev pub Goes : {V : Type 0} → World V → ℕ → List Take → List Asked → List Used → Type 0
Goes w q takes calls uses = (way : OnceInOrder takes calls uses) × InFlightOrHeld w q way.unasked way.unused

module _ {V : Type 0} (w : World V) (owned : Owned w) (q : ℕ) (takes : List Take) (calls : List Asked) (uses : List Used) where
  flies-goes : (k : ℕ) (phase : Phase) → phase_at w.phases k ≡ phase → OwnPhase w.wiring k phase → FliesIn q phase takes calls uses → Goes w q takes calls uses
  flies-goes k (Taken e queues) is own f =
      let way : OnceInOrder takes calls uses = record { unasked = take_of e ∷ []; unused = []; served = f.1; used = f.2 ∙ sym (append-nil uses); at_most_one = omega arith } in
      let H : Phase → Type 0 = λ p. InHand p (take_of e ∷ []) [] in
      (way, (k, subst (λ n. HasWorker w.wiring n k) f.0 own.0, subst H (sym is) refl))
  flies-goes k (Served e reply queues) is own f =
      let way : OnceInOrder takes calls uses = record { unasked = []; unused = used_of e reply ∷ []; served = f.1 ∙ sym (append-nil (map asked_take calls)); used = f.2; at_most_one = omega arith } in
      let H : Phase → Type 0 = λ p. InHand p [] (used_of e reply ∷ []) in
      (way, inl (k, subst (λ n. HasWorker w.wiring n k) f.0 own.0, subst H (sym is) refl))
  flies-goes k phase is own f = absurd f

  pub flow-goes : (f : Flight) → (ring_at w.shared q).flight ≡ f → FlowAt w.wiring q f (phase_at w.phases) takes calls uses → Goes w q takes calls uses
  flow-goes flight.None is flow = (record { unasked = []; unused = []; served = flow.0 ∙ sym (append-nil (map asked_take calls)); used = flow.1 ∙ sym (append-nil uses); at_most_one = omega arith }, tt)
  flow-goes flight.Held is flow =
      let way : OnceInOrder takes calls uses = record { unasked = []; unused = flow.1.0 ∷ []; served = flow.0 ∙ sym (append-nil (map asked_take calls)); used = flow.1.1; at_most_one = omega arith } in
      (way, inr (record { flight = is; worker = flow.3.0; has = flow.3.1; stopped = flow.3.2 }))
  flow-goes flight.InFlight is flow = flies-goes flow.0 (phase_at w.phases flow.0) refl (owned flow.0) flow.1

waiting-none : (phase : Phase) → IsWaiting phase → queue_in phase ≡ None
waiting-none Idle waits = refl
waiting-none (Stopped cause) waits = refl
waiting-none phase waits = absurd waits

pub fresh-flow : {V : Type 0} (w : World V) → IsFresh w → Flow w []
fresh-flow w fresh q =
    let none : NoneFlies q (phase_at w.phases) = λ k h. let n = waiting-none (phase_at w.phases k) (fresh.waiting k) in cc in
    rw (fresh.no_flight q, fresh.no_takes, fresh.no_uses) (refl, refl, none)

-- The replay

replay-append : {V : Type 0} (m : Meaning V) (calls more : List Asked) (v mid end : V) → IsReplay m v calls mid → IsReplay m mid more end → IsReplay m v (calls ++ more) end
replay-append {V} m [] more v mid end one two = subst (λ (x : V). IsReplay m x more end) one two
replay-append m (a ∷ calls) more v mid end one two = (one.0, replay-append m calls more (m.after v a.request a.room) mid end one.1 two)

module _ {V : Type 0} (m : Meaning V) (w : World V) where
  abbrev SameService : Shared V → Type 0
  SameService h = h.service ≡ w.shared.service

  replay-take : (queues : List ℕ) → SameService (after_take w.shared queues).shared
  replay-take [] = refl
  replay-take (q ∷ rest) =
      take-leaf w.shared (λ (local : Local V). SameService local.shared) q rest
      (λ c is. refl) (λ is. none-leaf w.shared SameService q (λ live. refl) (λ dead. refl)) (λ d is. refl)

  called-service : (shared : Shared V) (call : Option ℕ) (wanted : Bool) → (called shared call wanted).service ≡ shared.service
  called-service shared call false = refl
  called-service shared None true = refl
  called-service shared (Some object) true = refl

  replay-put : (e : Entry) (reply queues : List ℕ) → SameService (after_put w.shared e reply queues).shared
  replay-put e reply queues =
      said-cases (put_said w.shared e reply) (λ said. SameService (after_said w.shared e reply queues said).shared)
      (λ wanted is. called-service (used w.shared e reply) (ring_at w.shared e.queue).call wanted) (λ fault is. refl)

  replay-inside : (k : ℕ) (phase : Phase) (l : Play) → MayWork w.wiring k w.shared phase l → IsReplay m w.shared.service (asked_by m w.shared.service phase l) (after_work m w.wiring k w.shared phase l).shared.service
  replay-inside k =
      work-cases w.wiring k w.shared (λ phase l. IsReplay m w.shared.service (asked_by m w.shared.service phase l) (after_work m w.wiring k w.shared phase l).shared.service)
      (λ object ready. refl)
      (λ object token. event-shared w.wiring k w.shared SameService object token refl (λ o. refl))
      refl
      (λ token said. refl)
      replay-take
      (λ e queues. (refl, refl))
      replay-put

  replay-guest : (actions : List Guest) → SameService (after_guest w actions).shared
  replay-guest [] = refl
  replay-guest (Store object offset bytes ∷ actions) = refl
  replay-guest (Harvest object word ∷ actions) = refl
  replay-guest (Signal object ∷ actions) = refl

  replay-step : (p : Party) (l : Play) → May w p l → IsReplay m w.shared.service (asked_at m w p l) (after m w p l).shared.service
  replay-step party.Guest play.Guest may = replay-guest w.guest
  replay-step (party.Worker k) l may =
      subst (λ c. IsReplay m w.shared.service c (after_work m w.wiring k w.shared (phase_at w.phases k) l).shared.service) (sym (asked-same m w k l)) (replay-inside k (phase_at w.phases k) l may)
  replay-step party.Control (play.Control s said) may = service-small w.wiring w.shared s
  replay-step p l may = absurd may

pub replay-run : {V : Type 0} (m : Meaning V) (turns : List ℕ) (labels : List Play) (w z : World V) → IsRun m turns labels w z → IsReplay m w.shared.service (asked m turns labels w) z.shared.service
replay-run {V} m [] [] w z run = ap (λ (x : World V). x.shared.service) run
replay-run m [] (l ∷ labels) w z run = absurd run
replay-run m (turn ∷ turns) [] w z run = absurd run
replay-run {V} m (turn ∷ turns) (l ∷ labels) w z run =
    let p = party_of turn in
    let is = turn-next m w p l run.0 run.1 in
    let rest = replay-run m turns labels run.0 z run.2 in
    let first : IsReplay m w.shared.service (asked_at m w p l) run.0.shared.service =
    turn-cases m w p run.0 (λ l. IsReplay m w.shared.service (asked_at m w p l) run.0.shared.service)
    (λ same. subst (λ c. IsReplay m w.shared.service c run.0.shared.service) (sym (asked-pass m w p)) (ap (λ (x : World V). x.shared.service) same))
    (λ l may is. subst (λ (x : World V). IsReplay m w.shared.service (asked_at m w p l) x.shared.service) (sym is) (replay-step m w p l may))
    l run.1 in
    replay-append m (asked_at m w p l) (asked m turns labels (next m w p l)) w.shared.service run.0.shared.service z.shared.service first (subst (λ (x : World V). IsReplay m run.0.shared.service (asked m turns labels x) z.shared.service) is rest)
