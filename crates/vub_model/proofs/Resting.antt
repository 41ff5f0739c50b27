-- Where no party has a step, a calm running queue has no entry left.
use Rattle.std.proofs.Common.{◌≡◌, ℕ, ◌+◌, ◌<◌, Bool, true, false, cond, ◌&&◌, ◌||◌, inl, inr, List, [], ◌∷◌, length, Option, Some, None, is_some, refl, sym, ap, ◌∙◌, subst, arith, eqb, nat_lt, slice_index_or, ◌⊎◌}
use Rattle.std.specs.List.{AllByRecursion, list_any, cons_option}
use Rattle.std.proofs.lemmas.List.{get_or_past}
use Rattle.std.proofs.lemmas.Bool.{cases_lt, eqb-true, ne_eqb, lt-ltb, eq-eqb, and_parts}
use Rattle.vub_event.specs.declared.event.Event.{Event}
use Rattle.vub_event.specs.declared.member.Member.{Member}
use Rattle.vub_event.specs.declared.ready.Ready.{Ready}
use Rattle.vub_event.specs.Counter.{greatest_count, has_bits, reported_bits}
use Rattle.vub_event.specs.HostTable.{report_of, reports_of}
use Rattle.vub_event.specs.InterestList.{member_of}
use Rattle.vub_model.specs.declared.play.Play.{Play}
use Rattle.vub_model.specs.declared.play.Play.TheVariants as play
use Rattle.vub_model.specs.declared.party.Party.TheVariants as party
use Rattle.vub_model.specs.declared.phase.Phase.{Phase}
use Rattle.vub_model.specs.declared.phase.Phase.TheVariants.{Idle, Polled, Sweep, Heard, Serving, Taken, Served, Stopped}
use Rattle.vub_model.specs.declared.cause.StopCause.TheVariants.{Exit}
use Rattle.vub_model.specs.declared.wiring.Known.{Known}
use Rattle.vub_model.specs.RingRecord.{Vring, closed_ring, needs_no_flight, is_in_flight}
use Rattle.vub_model.specs.EntryNumber.{has_left}
use Rattle.vub_model.specs.Frame.{Frame, frame_of}
use Rattle.vub_model.specs.Shared.{Shared, ring_at, count_at, count_of, pending_at, has_number}
use Rattle.vub_model.specs.Wiring.{Wiring, opened_at, IsPlaced}
use Rattle.vub_model.specs.Work.{MayWork}
use Rattle.vub_model.specs.World.{World, phase_at}
use Rattle.vub_model.specs.RunOf.{IsAtRest}
use Rattle.vub_model.specs.Running.{HasStopped, NoneIsLost}
use Rattle.vub_model.specs.Schedule.{list_at, is_member, IsOwn, list_of, PhaseFits, Rung, ringing, sweeping, Woken, signalled, waiting, listed, Invariant, First, IsHandled, Safe, Settled, HasInHand}
use Rattle.vub_model.proofs.SchedWork.{kick-ring, known-ring}
use Rattle.vub_model.specs.Control.{waits_now, MayControl, MaySay, IsOutcome}
use Rattle.vub_model.specs.declared.small.Small.{Small}
use Rattle.vub_model.specs.declared.small.Small.TheVariants.{Claim, Release, Add, Delete, Listen, Unlisten, Bell, Remove, Insert, Set, Info, Table, Log, Device, Answer as Answering}
use Rattle.vub_proto.specs.declared.device_op.DeviceOp.{DeviceOp}
use Rattle.vub_proto.specs.declared.device_said.DeviceSaid.{DeviceSaid}
use Rattle.vub_model.specs.declared.flight.Flight.{Flight}
use Rattle.vub_model.specs.declared.flight.Flight.TheVariants as flight
use Rattle.vub_proto.specs.declared.device_op.DeviceOp.TheVariants as device
use Rattle.vub_proto.specs.declared.device_said.DeviceSaid.TheVariants as outcome

-- A member whose counter is above zero is reported

reported : (event : Event) (set : ℕ) → has_bits set 1 ≡ true → 0 < event.count → eqb (reported_bits event set) 0 ≡ false
reported event set asks above =
    let more : nat_lt 0 event.count ≡ true = lt-ltb 0 event.count above in
    rw (asks, more) (ne_eqb (1 + cond (has_bits set 4 && nat_lt event.count greatest_count) 4 0 + cond event.hung_up 16 0) 0 (λ none. absurd (omega arith)))

report-first : (m : Member) (event : Option Event) (o : ℕ) (rest : List Ready) → m.object ≡ o → has_bits m.set.0 1 ≡ true → 0 < count_of event → list_any (λ r. eqb r.object o) (cons_option (report_of m event) rest) ≡ true
report-first m None o rest same asks above = absurd (omega arith)
report-first m (Some event) o rest same asks above = rw (reported event m.set.0 asks above) (ap (λ b. b || list_any (λ r. eqb r.object o) rest) (eq-eqb m.object o same))

report-later : (report : Option Ready) (o : ℕ) (rest : List Ready) → list_any (λ r. eqb r.object o) rest ≡ true → list_any (λ r. eqb r.object o) (cons_option report rest) ≡ true
report-later None o rest h = h
report-later (Some r) o rest h = elim (eqb r.object o) as (λ b. b || list_any (λ r. eqb r.object o) rest ≡ true) [ true ↦ refl | false ↦ h ]

ready-member : (g : Wiring) (f : Frame) (k o : ℕ) (objects : List (Option Event)) (ms : List Member) → AllByRecursion (IsOwn g f k) ms → is_member ms o ≡ true → 0 < count_of (slice_index_or objects o None) → list_any (λ r. eqb r.object o) (reports_of objects ms) ≡ true
ready-member g f k o objects [] own h above = absurd cc
ready-member g f k o objects (m ∷ ms) own h above = by (eqb m.object o) refl (λ h. ready-member g f k o objects ms own.1 h above) h where
  by : (b : Bool) → eqb m.object o ≡ b → (is_member ms o ≡ true → list_any (λ r. eqb r.object o) (reports_of objects ms) ≡ true) → is_some (cond b (Some m) (member_of ms o)) ≡ true → list_any (λ r. eqb r.object o) (reports_of objects (m ∷ ms)) ≡ true
  by true is more h =
      let same : m.object ≡ o = eqb-true m.object o is in
      let P : ℕ → Type 0 = λ x. 0 < count_of (slice_index_or objects x None) in
      report-first m (slice_index_or objects m.object None) o (reports_of objects ms) same own.0.asks (subst P (sym same) above)
  by false is more h = report-later (report_of m (slice_index_or objects m.object None)) o (reports_of objects ms) (more h)

-- a worker that has no step and has not stopped is idle
idle-in : {V : Type 0} (g : Wiring) (k : ℕ) (h : Shared V) (phase : Phase) → PhaseFits g k phase → ((l : Play) → MayWork g k h phase l → ⊥) → (HasStopped phase → ⊥) → phase ≡ Idle
idle-in g k h Idle fits none goes = refl
idle-in g k h (Polled object token) fits none goes = absurd (none play.Event tt)
idle-in g k h Sweep fits none goes = absurd (none play.Sweep tt)
idle-in g k h (Heard token) fits none goes = absurd (none (play.Hear outcome.Done) tt)
idle-in g k h (Serving queues) fits none goes = absurd (none play.Take tt)
idle-in g k h (Taken e queues) fits none goes = absurd (none play.Serve tt)
idle-in g k h (Served e reply queues) fits none goes = absurd (none play.Put tt)
idle-in g k h (Stopped cause) fits none goes = absurd (goes tt)

-- a worker with an entry in hand has a step
hand-steps : {V : Type 0} (g : Wiring) (k : ℕ) (h : Shared V) (phase : Phase) (q : ℕ) → HasInHand phase q → ((l : Play) → MayWork g k h phase l → ⊥) → ⊥
hand-steps g k h (Taken e queues) q hand none = none play.Serve tt
hand-steps g k h (Served e reply queues) q hand none = none play.Put tt
hand-steps g k h phase q hand none = absurd hand

-- some outcome that the step may have
abbrev pub some-answer : DeviceOp → DeviceSaid
some-answer (device.GetConfig offset size) = outcome.Content []
some-answer (device.GetSharedObject uuid) = outcome.Object (Some 0)
some-answer (device.SetDeviceStateFd direction phase object) = outcome.Object None
some-answer device.GetShmemConfig = outcome.Number 0
some-answer call = outcome.Done

abbrev pub some-outcome : Small → DeviceSaid
some-outcome (Device call) = some-answer call
some-outcome s = outcome.Done

is-answer : (call : DeviceOp) → IsOutcome call (some-answer call)
is-answer (device.GetConfig offset size) = tt
is-answer (device.GetSharedObject uuid) = tt
is-answer (device.SetDeviceStateFd direction phase object) = tt
is-answer device.GetShmemConfig = tt
is-answer (device.AckedFeatures bits) = tt
is-answer device.ResetDevice = tt
is-answer (device.SetEventIdx enabled) = tt
is-answer (device.SetBackendReqFd backend) = tt
is-answer (device.SetConfig offset bytes) = tt
is-answer (device.UpdateMemory regions) = tt
is-answer (device.StopVring queue) = tt
is-answer (device.HandleEvent token worker) = tt
is-answer (device.SetGpuSocket object) = tt
is-answer device.CheckDeviceState = tt

-- and it may have it
pub may-say : (s : Small) → MaySay s (some-outcome s)
may-say (Device call) = is-answer call
may-say (Claim object queue) = refl
may-say (Release object) = refl
may-say (Add worker object token) = refl
may-say (Delete worker object) = refl
may-say (Listen worker object token) = refl
may-say (Unlisten worker object above) = refl
may-say (Bell object) = refl
may-say (Remove worker number) = refl
may-say (Insert worker number) = refl
may-say (Set queue o) = refl
may-say (Info queue desc avail used) = refl
may-say (Table change) = refl
may-say (Log object offset size) = refl
may-say Answering = refl

in-flight : (f : Flight) → is_in_flight f ≡ true → f ≡ flight.InFlight
in-flight flight.InFlight is = refl
in-flight flight.None is = absurd cc
in-flight flight.Held is = absurd cc

-- a step waits for an entry in flight alone
waits-flight : {V : Type 0} (h : Shared V) (s : Small) → waits_now h s ≡ true → (q : ℕ) × ((ring_at h q).flight ≡ flight.InFlight)
waits-flight h (Set queue o) waits = (queue, in-flight (ring_at h queue).flight (and_parts (needs_no_flight o) (is_in_flight (ring_at h queue).flight) waits).1)
waits-flight h (Info queue desc avail used) waits = (queue, in-flight (ring_at h queue).flight waits)
waits-flight h s waits = absurd cc

module _ {V : Type 0} (w : World V) (calm : ℕ → Bool) (i : Invariant w calm) (rest : IsAtRest w) where
  is-idle : (k : ℕ) → (HasStopped (phase_at w.phases k) → ⊥) → phase_at w.phases k ≡ Idle
  is-idle k goes = idle-in w.wiring k w.shared (phase_at w.phases k) (i.phases k) (rest (party.Worker k)) goes

  -- none of its members is above zero
  no-event : (k o : ℕ) → k < length w.wiring.opened → (HasStopped (phase_at w.phases k) → ⊥) → is_member (list_at w.wiring (frame_of w.shared) k) o ≡ true → 0 < count_at w.shared.table o → ⊥
  no-event k o below goes member above =
      let P : Phase → Type 0 = λ p. MayWork w.wiring k w.shared p (play.Poll o) → ⊥ in
      (subst P (is-idle k goes) (rest (party.Worker k) (play.Poll o)))
      (ready-member w.wiring (frame_of w.shared) k o w.shared.table.objects (list_at w.wiring (frame_of w.shared) k) (i.linked.members k below) member above)

  no-rung : (k : ℕ) → k < length w.wiring.opened → (HasStopped (phase_at w.phases k) → ⊥) → Rung (count_at w.shared.table (opened_at w.wiring k).bell) (phase_at w.phases k) → ⊥
  no-rung k below goes (ringing above) = no-event k (opened_at w.wiring k).bell below goes (i.linked.bell k below) above
  no-rung k below goes (sweeping is) = let idle = is-idle k goes in absurd cc

  -- Control

  -- an entry in flight is in the hand of a worker, who has a step
  no-flight : (q : ℕ) → (ring_at w.shared q).flight ≡ flight.InFlight → ⊥
  no-flight q is =
      let its = i.flies q is in
      hand-steps w.wiring its.0 w.shared (phase_at w.phases its.0) q its.2 (rest (party.Worker its.0))

  no-plan : w.control.plan.steps ≡ []
  no-plan = by w.control.plan.steps refl where
    by : (steps : List Small) → w.control.plan.steps ≡ steps → steps ≡ []
    by [] is = refl
    by (s ∷ steps) is = absurd (go (waits_now w.shared s) refl) where
      go : (b : Bool) → waits_now w.shared s ≡ b → ⊥
      go true waits = let its = waits-flight w.shared s waits in no-flight its.0 its.1
      go false ready =
          let P : List Small → Type 0 = λ steps. MayControl w.shared steps s (some-outcome s) in
          rest party.Control (play.Control s (some-outcome s)) (subst P (sym is) (refl, ready, may-say s))

  no-first : (s : Small) → First w.control.plan.steps s → ⊥
  no-first s first = let P : List Small → Type 0 = λ steps. First steps s in subst P no-plan first

  no-ring : (k : ℕ) → k < length w.wiring.opened → (HasStopped (phase_at w.phases k) → ⊥) → Rung (count_at w.shared.table (opened_at w.wiring k).bell) (phase_at w.phases k) ⊎ First w.control.plan.steps (Bell (opened_at w.wiring k).bell) → ⊥
  no-ring k below goes (inl rung) = no-rung k below goes rung
  no-ring k below goes (inr first) = no-first (Bell (opened_at w.wiring k).bell) first

  no-woken : (q k n o : ℕ) → k < length w.wiring.opened → (HasStopped (phase_at w.phases k) → ⊥) → is_member (list_at w.wiring (frame_of w.shared) k) o ≡ true → Woken (count_at w.shared.table o) (pending_at w.shared k) (phase_at w.phases k) q n → ⊥
  no-woken q k n o below goes member (signalled above) = no-event k o below goes member above
  no-woken q k n o below goes member (waiting has) = no-ring k below goes (i.rung k below (λ none. let e = ap (has_number n) none in absurd cc))
  no-woken q k n o below goes member (listed has) = let e = ap (λ p. has_number q (list_of p)) (is-idle k goes) in absurd cc

  no-waking : (q k n o : ℕ) → k < length w.wiring.opened → (HasStopped (phase_at w.phases k) → ⊥) → is_member (list_at w.wiring (frame_of w.shared) k) o ≡ true → Woken (count_at w.shared.table o) (pending_at w.shared k) (phase_at w.phases k) q n ⊎ IsHandled w.control.plan.steps k n o → ⊥
  no-waking q k n o below goes member (inl woken) = no-woken q k n o below goes member woken
  no-waking q k n o below goes member (inr (inl inserts)) = no-first (Insert k n) inserts
  no-waking q k n o below goes member (inr (inr deletes)) = no-first (Delete k o) deletes

  settled : Settled w.wiring (frame_of w.shared)
  settled = let P : List Small → Type 0 = λ steps. Safe w.wiring (frame_of w.shared) w.control.plan.reply steps in subst P no-plan i.safe

  -- a ring with a kick is one of the device's
  has-ring : (q o : ℕ) → (ring_at w.shared q).kick ≡ Some o → q < w.wiring.queues
  has-ring q o kick =
      elim (cases_lt q (length w.shared.rings)) [
        | inl below ↦ omega (arith, below, i.rings_size)
        | inr past ↦ absurd (let none = ap (λ (r : Vring). r.kick) (get_or_past w.shared.rings q closed_ring past) in absurd cc)
      ]

  has-worker : (k : ℕ) → (HasStopped (phase_at w.phases k) → ⊥) → k < length w.wiring.opened
  has-worker k goes =
      elim (cases_lt k (length w.phases)) [
        | inl below ↦ omega (arith, below, i.phases_size)
        | inr past ↦ absurd (goes (let P : Phase → Type 0 = λ p. HasStopped p in subst P (sym (get_or_past w.phases k (Stopped Exit) past)) tt))
      ]

  pub none-left : NoneIsLost w calm
  none-left q runs calms =
      let k = runs.place.worker in
      let n = runs.place.number in
      let o = runs.kick in
      let below = has-worker k runs.goes in
      let at : IsPlaced w.wiring q k n = record { there = has-ring q o runs.has_kick; place = runs.placed } in
      let known = known-ring w.shared q in
      let member : is_member (list_at w.wiring (frame_of w.shared) k) o ≡ true = settled q k n o below at (kick-ring w.shared q ∙ runs.has_kick) ∙ (ap (λ (x : Known). x.ready && x.enabled) known ∙ runs.on) in
      by k n o below runs.goes member (λ left. i.awake q k n o at runs.goes runs.has_kick member runs.on runs.addresses calms left) (has_left w.shared.guest (ring_at w.shared q)) refl where
        by : (k n o : ℕ) → k < length w.wiring.opened → (HasStopped (phase_at w.phases k) → ⊥) → is_member (list_at w.wiring (frame_of w.shared) k) o ≡ true → (has_left w.shared.guest (ring_at w.shared q) ≡ true → Woken (count_at w.shared.table o) (pending_at w.shared k) (phase_at w.phases k) q n ⊎ IsHandled w.control.plan.steps k n o) → (b : Bool) → has_left w.shared.guest (ring_at w.shared q) ≡ b → b ≡ false
        by k n o below goes member woke true left = absurd (no-waking q k n o below goes member (woke left))
        by k n o below goes member woke false left = refl
