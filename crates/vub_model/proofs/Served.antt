-- Once and in order over several bases: in every run of a valid set-up the service was asked in the order of the Serve
-- steps, and each queue's entries were taken once and in order, numbered from each base, and used each with its reply, but
-- for at most one in flight or held.
use Rattle.std.proofs.Common.{◌≡◌, ℕ, ◌+◌, Bool, List, [], ◌∷◌, ◌++◌, length, refl, sym, ap, ◌∙◌, subst, arith, append_assoc, append-nil}
use Rattle.vub_proto.specs.declared.device_said.DeviceSaid.{DeviceSaid}
use Rattle.vub_model.specs.declared.party.Party.{Party}
use Rattle.vub_model.specs.declared.play.Play.{Play}
use Rattle.vub_model.specs.declared.phase.Phase.{Phase}
use Rattle.vub_model.specs.declared.phase.Phase.TheVariants.{Idle, Polled, Sweep, Heard, Serving, Taken, Served, Stopped}
use Rattle.vub_model.specs.declared.records.Take.{Take}
use Rattle.vub_model.specs.declared.small.Small.{Small}
use Rattle.vub_model.specs.RingRecord.{Vring, fits}
use Rattle.vub_model.specs.Shared.{ring_at}
use Rattle.vub_model.specs.Control.{MayControl}
use Rattle.vub_model.specs.Service.{Meaning}
use Rattle.vub_model.specs.World.{World, phase_at, after_control}
use Rattle.vub_model.specs.RunOf.{party_of, next, Turn, IsRun}
use Rattle.vub_model.specs.Running.{calm_after}
use Rattle.vub_model.specs.Headline.{Asked, asked, asked_at, takes_of}
use Rattle.vub_model.specs.Schedule.{PhaseFits, HasInHand, Invariant}
use Rattle.vub_model.proofs.Turns.{turn-cases, turn-next}
use Rattle.vub_model.proofs.Owners.{Owned, OwnPhase}
use Rattle.vub_model.proofs.Flow.{Flow}
use Rattle.vub_model.proofs.FlowRuns.{asked-pass, flow-step}
use Rattle.vub_model.proofs.Numbers.{NumberAt, RingNumbered, Numbered, number-step}
use Rattle.vub_model.proofs.Settings.{Kept}
use Rattle.vub_model.proofs.SmallRings.{ring-small, small-leaves}
use Rattle.vub_model.proofs.SchedRuns.{IsFew, invariant-turn, few-turn}

-- What the schedule invariant says of workers

invariant-owned : {V : Type 0} (w : World V) (calm : ℕ → Bool) → Invariant w calm → Owned w
invariant-owned w calm i k = by k (phase_at w.phases k) refl (i.phases k) where
  by : (k : ℕ) (phase : Phase) → phase_at w.phases k ≡ phase → PhaseFits w.wiring k phase → OwnPhase w.wiring k phase
  by k (Polled object token) is fits = tt
  by k (Serving queues) is fits = fits
  by k (Taken e queues) is fits = ((i.hands k e.queue (let P : Phase → Type 0 = λ p. HasInHand p e.queue in subst P (sym is) refl)).0, fits)
  by k (Served e reply queues) is fits = ((i.hands k e.queue (let P : Phase → Type 0 = λ p. HasInHand p e.queue in subst P (sym is) refl)).0, fits)
  by k Idle is fits = tt
  by k Sweep is fits = tt
  by k (Heard token) is fits = tt
  by k (Stopped cause) is fits = tt

-- Control steps

-- a change of a ring keeps its numbers, and a new base begins a new epoch
next-epoch : (r : Vring) (takes : List Take) → RingNumbered r takes → (n : ℕ) → NumberAt (r.epoch + 1) n 0 takes
next-epoch r takes at n = record { now = at.none_later (r.epoch + 1) (omega arith); none_later = λ e later. at.none_later e (omega (arith, later)) }

numbers-kept : (r : Vring) (takes : List Take) → RingNumbered r takes → Kept (λ x. RingNumbered x takes) r
numbers-kept r takes at = record { same = at; ready = λ b. at; size = λ n ok. at; enabled = λ b. at; event_idx = λ b. at; kick = λ k. at; call = λ c. at; err = λ e. at; addresses = λ a. at; used = λ a n. at }

pub number-small : {V : Type 0} (w : World V) (calm : ℕ → Bool) → Invariant w calm → Numbered w → (s : Small) (said : DeviceSaid) → MayControl w.shared w.control.plan.steps s said → Numbered (after_control w s said)
number-small w calm i numbered s said may =
    ring-small w calm i s said may (λ q r. RingNumbered r (takes_of q w.takes))
    (λ q. numbers-kept (ring_at w.shared q) (takes_of q w.takes) (numbered q))
    (λ q n is low. next-epoch (ring_at w.shared q) (takes_of q w.takes) (numbered q) n)

-- Turns and runs

-- a turn keeps the numbers of the takes
pub number-turn : {V : Type 0} (m : Meaning V) (w : World V) (calm : ℕ → Bool) (p : Party) (z : World V) → Invariant w calm → Numbered w → (l : Play) → Turn m w p l z → Numbered z
number-turn {V} m w calm p z i numbered =
    turn-cases m w p z (λ l. Numbered z)
    (λ same. subst (λ (x : World V). Numbered x) (sym same) numbered)
    (λ l may is. subst (λ (x : World V). Numbered x) (sym is) (number-step m w numbered (λ s said ok. number-small w calm i numbered s said ok) p l may))

served-turn : {V : Type 0} (m : Meaning V) (w : World V) (calm : ℕ → Bool) (p : Party) (z : World V) (calls : List Asked) → Invariant w calm → Flow w calls → Numbered w → (l : Play) → Turn m w p l z → Flow z (calls ++ asked_at m w p l) × Numbered z
served-turn {V} m w calm p z calls i flow numbered l turn = (
  turn-cases m w p z (λ l. Flow z (calls ++ asked_at m w p l))
      (λ same. subst (λ c. Flow z (calls ++ c)) (sym (asked-pass m w p)) (subst (λ c. Flow z c) (sym (append-nil calls)) (subst (λ (x : World V). Flow x calls) (sym same) flow)))
      (λ l may is. subst (λ (x : World V). Flow x (calls ++ asked_at m w p l)) (sym is) (flow-step m w calls flow (invariant-owned w calm i) (λ s said ok q. (small-leaves w calm i s said ok q).flight) p l may))
      l turn,
  number-turn m w calm p z i numbered l turn,
)

pub served-run : {V : Type 0} (m : Meaning V) (turns : List ℕ) (labels : List Play) (w z : World V) (calm : ℕ → Bool) (calls : List Asked) → IsFew w (length turns) → Invariant w calm → Flow w calls → Numbered w → IsRun m turns labels w z
    → Flow z (calls ++ asked m turns labels w) × Numbered z × Owned z
served-run {V} m [] [] w z calm calls few i flow numbered run =
    (subst (λ c. Flow z c) (sym (append-nil calls)) (subst (λ (x : World V). Flow x calls) (sym run) flow), subst (λ (x : World V). Numbered x) (sym run) numbered, subst (λ (x : World V). Owned x) (sym run) (invariant-owned w calm i))
served-run m [] (l ∷ labels) w z calm calls few i flow numbered run = absurd run
served-run m (turn ∷ turns) [] w z calm calls few i flow numbered run = absurd run
served-run {V} m (turn ∷ turns) (l ∷ labels) w z calm calls few i flow numbered run =
    let p = party_of turn in
    let now = invariant-turn m w p run.0 calm (λ q. omega (arith, few q)) i l run.1 in
    let still = few-turn m w p run.0 calm (length turns) (λ q. omega (arith, few q)) i l run.1 in
    let mid = served-turn m w calm p run.0 calls i flow numbered l run.1 in
    let rest = served-run m turns labels run.0 z (calm_after w p l run.0 calm) (calls ++ asked_at m w p l) still now mid.0 mid.1 run.2 in
    let same : (calls ++ asked_at m w p l) ++ asked m turns labels run.0 ≡ calls ++ (asked_at m w p l ++ asked m turns labels (next m w p l)) = append_assoc calls (asked_at m w p l) (asked m turns labels run.0) ∙ ap (λ x. calls ++ (asked_at m w p l ++ asked m turns labels x)) (turn-next m w p l run.0 run.1) in
    (subst (λ c. Flow z c) same rest.0, rest.1, rest.2)
