-- The takes of one queue and one epoch are numbered base, base + 1 and so on.
use Rattle.std.proofs.Common.{◌≡◌, ℕ, suc, ◌+◌, ◌<◌, Bool, true, false, inl, inr, List, [], ◌∷◌, ◌++◌, map, filter, Option, Some, None, refl, sym, ap, ◌∙◌, subst, arith, eqb, slice_index_or, slice_set}
use Rattle.std.proofs.lemmas.List.{append-nil, map-append, get_or-set_same, get_or-set_other}
use Rattle.std.proofs.lemmas.Bool.{cases_eq}
use Rattle.vub_queue.specs.declared.chain.Chain.{Chain}
use Rattle.vub_queue.specs.declared.took.Took.TheVariants as took
use Rattle.vub_model.specs.declared.entry.Entry.{Entry}
use Rattle.vub_model.specs.declared.play.Play.{Play}
use Rattle.vub_model.specs.declared.play.Play.TheVariants as play
use Rattle.vub_model.specs.declared.party.Party.{Party}
use Rattle.vub_model.specs.declared.party.Party.TheVariants as party
use Rattle.vub_model.specs.declared.phase.Phase.{Phase}
use Rattle.vub_model.specs.declared.phase.Phase.TheVariants.{Idle, Polled, Sweep, Heard, Taken}
use Rattle.vub_model.specs.declared.records.Take.{Take}
use Rattle.vub_model.specs.declared.ring_op.RingOp.TheVariants as op
use Rattle.vub_model.specs.declared.setup.Guest.{Guest}
use Rattle.vub_model.specs.declared.setup.Guest.TheVariants.{Store, Signal, Harvest}
use Rattle.vub_model.specs.RingRecord.{Vring, closed_ring, changed, ring_after}
use Rattle.vub_model.specs.Shared.{Shared, ring_at}
use Rattle.vub_model.specs.Service.{Meaning}
use Rattle.vub_model.specs.Wiring.{Wiring}
use Rattle.vub_model.specs.Work.{Local, MayWork, after_work, after_take, after_took, after_put, after_said, called, used, entry_of, looked, put_said}
use Rattle.vub_model.specs.World.{World, May, after, after_guest, phase_at, take_of, takes_by, after_control}
use Rattle.vub_model.specs.Bases.{numbers, count_up}
use Rattle.vub_model.specs.Headline.{takes_of}
use Rattle.vub_model.proofs.Openings.{IsFresh}
use Rattle.vub_model.proofs.Cases.{work-cases, event-shared, take-leaf, none-leaf, said-cases}
use Rattle.vub_model.proofs.Live.{looked-live, live-parts, live-taken, serving-takes}
use Rattle.vub_model.proofs.Flow.{field-kept}
use Rattle.vub_model.proofs.FlowSteps.{pushed, left_out, on-within}
use Rattle.vub_model.specs.declared.small.Small.{Small}
use Rattle.vub_proto.specs.declared.device_said.DeviceSaid.{DeviceSaid}
use Rattle.vub_model.specs.Control.{MayControl}

-- The takes of this epoch are numbered on from this base, and there is no later epoch.
pub record NumberAt (epoch base taken : ℕ) (takes : List Take) : Type 0 where
  pub now : numbers epoch takes ≡ count_up base taken
  pub none_later : (e : ℕ) → epoch < e → numbers e takes ≡ []

abbrev pub RingNumbered : Vring → List Take → Type 0
RingNumbered r takes = NumberAt r.epoch r.base r.taken takes

abbrev pub Numbered : {V : Type 0} → World V → Type 0
Numbered w = (queue : ℕ) → RingNumbered (ring_at w.shared queue) (takes_of queue w.takes)

-- One epoch

numbers-own : (epoch : ℕ) (takes : List Take) (t : Take) → t.epoch ≡ epoch → numbers epoch (takes ++ t ∷ []) ≡ numbers epoch takes ++ t.number ∷ []
numbers-own epoch takes t own = ap (map (λ (t : Take). t.number)) (pushed (λ (t : Take). t.epoch) epoch takes t own) ∙ map-append (λ (t : Take). t.number) (filter (λ (t : Take). eqb t.epoch epoch) takes) (t ∷ [])

pub numbers-other : (epoch : ℕ) (takes : List Take) (t : Take) → (t.epoch ≡ epoch → ⊥) → numbers epoch (takes ++ t ∷ []) ≡ numbers epoch takes
numbers-other epoch takes t other = ap (map (λ (t : Take). t.number)) (left_out (λ (t : Take). t.epoch) epoch takes t other)

-- one more take, with the next number
pub number-take : (epoch base taken : ℕ) (takes : List Take) (t : Take) → t.epoch ≡ epoch → t.number ≡ base + taken → NumberAt epoch base taken takes → NumberAt epoch base (taken + 1) (takes ++ t ∷ [])
number-take epoch base taken takes t own number at =
    let more : numbers epoch (takes ++ t ∷ []) ≡ count_up base (suc taken) = numbers-own epoch takes t own ∙ (ap (λ ns. ns ++ t.number ∷ []) at.now ∙ ap (λ n. count_up base taken ++ n ∷ []) number) in
    let next : taken + 1 ≡ suc taken = omega arith in
    record {
      now = rw next more;
      none_later = λ e later. numbers-other e takes t (λ same. absurd (omega arith)) ∙ at.none_later e later;
    }

-- writing a ring that keeps epoch, base and taken keeps them at every queue
pub same-numbers : (rings : List Vring) (p : ℕ) (r : Vring) (q : ℕ) (takes : List Take) → r.epoch ≡ (slice_index_or rings p closed_ring).epoch → r.base ≡ (slice_index_or rings p closed_ring).base → r.taken ≡ (slice_index_or rings p closed_ring).taken → RingNumbered (slice_index_or rings q closed_ring) takes → RingNumbered (slice_index_or (slice_set rings p r) q closed_ring) takes
same-numbers rings p r q takes epoch base taken at =
    rw (field-kept (λ (r : Vring). r.epoch) rings p r epoch q, field-kept (λ (r : Vring). r.base) rings p r base q, field-kept (λ (r : Vring). r.taken) rings p r taken q) at

-- A worker's step

-- of these rings and takes
abbrev pub AllNumbered : List Vring → List Take → Type 0
AllNumbered rings takes = (q : ℕ) → RingNumbered (slice_index_or rings q closed_ring) (takes_of q takes)

module _ {V : Type 0} (g : Wiring) (h : Shared V) (takes : List Take) (numbered : AllNumbered h.rings takes) where
  -- what the takes are after a step that ends so
  abbrev pub After : Play → Local V → Type 0
  After l local = AllNumbered local.shared.rings (takes ++ takes_by l local.phase)

  still : (l : Play) (local : Local V) → takes_by l local.phase ≡ [] → local.shared.rings ≡ h.rings → After l local
  still l local none rings q = rw (rings, none, append-nil takes) (numbered q)

  number-entry : (p : ℕ) (rest : List ℕ) (c : Chain) → looked h p ≡ took.Entry c → After play.Take (after_took h p rest (took.Entry c))
  number-entry p rest c is =
      let live = looked-live h p c is in
      let r : Vring = changed (ring_at h p) op.Taken in
      let t : Take = take_of (entry_of p (ring_at h p) c) in
      let S : Vring → Type 0 = λ r. AllNumbered (slice_set h.rings p r) (takes ++ t ∷ []) in
      let P : ℕ → Type 0 = λ q. RingNumbered (slice_index_or (slice_set h.rings p r) q closed_ring) (takes_of q (takes ++ t ∷ [])) in
      let here : P p = rw (get_or-set_same h.rings p r closed_ring (on-within h.rings p (live-parts (ring_at h p) live).on), pushed (λ (t : Take). t.queue) p takes t refl) (number-take (ring_at h p).epoch (ring_at h p).base (ring_at h p).taken (takes_of p takes) t refl refl (numbered p)) in
      let all : S r = λ q. elim (cases_eq q p) [
        | inl same ↦ subst P (sym same) here
        | inr other ↦ rw (get_or-set_other h.rings p q r closed_ring other, left_out (λ (t : Take). t.queue) q takes t (λ e. other (sym e))) (numbered q)
      ] in
      subst S (sym (live-taken (ring_at h p) live)) all

  number-take-step : (queues : List ℕ) → After play.Take (after_take h queues)
  number-take-step [] = still play.Take (after_take h []) refl refl
  number-take-step (p ∷ rest) =
      take-leaf h (After play.Take) p rest
      (number-entry p rest)
      (λ is. still play.Take (after_took h p rest took.None) (serving-takes rest) (none-leaf h (λ x. x.rings ≡ h.rings) p (λ live. refl) (λ dead. refl)))
      (λ d is. still play.Take (after_took h p rest (took.Damaged d)) refl refl)

  called-rings : (shared : Shared V) (call : Option ℕ) (wanted : Bool) → (called shared call wanted).rings ≡ shared.rings
  called-rings shared call false = refl
  called-rings shared None true = refl
  called-rings shared (Some object) true = refl

  number-put : (e : Entry) (reply queues : List ℕ) → After play.Put (after_put h e reply queues)
  number-put e reply queues =
      said-cases (put_said h e reply) (λ said. After play.Put (after_said h e reply queues said))
      (λ wanted is q. rw (called-rings (used h e reply) (ring_at h e.queue).call wanted, append-nil takes) (same-numbers h.rings e.queue (ring_after (ring_at h e.queue) op.Put) q (takes_of q takes) refl refl refl (numbered q)))
      (λ fault is q. rw (append-nil takes) (same-numbers h.rings e.queue (ring_after (ring_at h e.queue) op.Hold) q (takes_of q takes) refl refl refl (numbered q)))

  pub number-work : (m : Meaning V) (k : ℕ) (phase : Phase) (l : Play) → MayWork g k h phase l → After l (after_work m g k h phase l)
  number-work m k =
      work-cases g k h (λ phase l. After l (after_work m g k h phase l))
      (λ object ready. still (play.Poll object) (after_work m g k h Idle (play.Poll object)) refl refl)
      (λ object token. still play.Event (after_work m g k h (Polled object token) play.Event) refl (event-shared g k h (λ x. x.rings ≡ h.rings) object token refl (λ o. refl)))
      (still play.Sweep (after_work m g k h Sweep play.Sweep) refl refl)
      (λ token said. still (play.Hear said) (after_work m g k h (Heard token) (play.Hear said)) refl refl)
      number-take-step
      (λ e queues. still play.Serve (after_work m g k h (Taken e queues) play.Serve) refl refl)
      number-put

-- A turn, and a run

module _ {V : Type 0} (m : Meaning V) (w : World V) (numbered : Numbered w) where
  number-guest : (actions : List Guest) → Numbered (after_guest w actions)
  number-guest [] = numbered
  number-guest (Store object offset bytes ∷ actions) = numbered
  number-guest (Harvest object word ∷ actions) = numbered
  number-guest (Signal object ∷ actions) = numbered

  module _ (control : (s : Small) (said : DeviceSaid) → MayControl w.shared w.control.plan.steps s said → Numbered (after_control w s said)) where
    pub number-step : (p : Party) (l : Play) → May w p l → Numbered (after m w p l)
    number-step party.Guest play.Guest may = number-guest w.guest
    number-step (party.Worker k) l may = number-work w.wiring w.shared w.takes numbered m k (phase_at w.phases k) l may
    number-step party.Control (play.Control s said) may = control s said may
    number-step p l may = absurd may

pub fresh-numbered : {V : Type 0} (w : World V) → IsFresh w → Numbered w
fresh-numbered w fresh q = rw (fresh.no_takes, fresh.untaken q) (record { now = refl; none_later = λ e later. refl })
