-- The takes of each epoch are numbered on from its base, which is the given one or that of an accepted change of base.
use Rattle.std.proofs.Common.{◌≡◌, ℕ, ◌+◌, ◌<◌, Bool, true, false, cond, not, ◌&&◌, inl, inr, List, [], ◌∷◌, ◌++◌, length, Option, Some, None, refl, sym, ap, ◌∙◌, subst, arith, nat_lt, append_assoc, append-nil, slice_index_or, Ok, Err}
use Rattle.std.proofs.lemmas.List.{length-append, get_or_append_left, get_or_at}
use Rattle.std.proofs.lemmas.Bool.{cases_eq, eq-eqb, ne_eqb}
use Rattle.vub_queue.specs.declared.chain.Chain.{Chain}
use Rattle.vub_queue.specs.declared.took.Took.TheVariants as took
use Rattle.vub_proto.specs.declared.device_said.DeviceSaid.{DeviceSaid}
use Rattle.vub_model.specs.declared.entry.Entry.{Entry}
use Rattle.vub_model.specs.declared.party.Party.{Party}
use Rattle.vub_model.specs.declared.party.Party.TheVariants as party
use Rattle.vub_model.specs.declared.play.Play.{Play}
use Rattle.vub_model.specs.declared.play.Play.TheVariants as play
use Rattle.vub_model.specs.declared.phase.Phase.{Phase}
use Rattle.vub_model.specs.declared.phase.Phase.TheVariants.{Idle, Polled, Sweep, Heard, Taken}
use Rattle.vub_model.specs.declared.records.Take.{Take}
use Rattle.vub_model.specs.declared.ring_op.RingOp.{RingOp}
use Rattle.vub_model.specs.declared.ring_op.RingOp.TheVariants as op
use Rattle.vub_model.specs.declared.setup.Guest.{Guest}
use Rattle.vub_model.specs.declared.setup.Guest.TheVariants.{Store, Signal, Harvest}
use Rattle.vub_model.specs.declared.small.Small.{Small}
use Rattle.vub_model.specs.declared.small.Small.TheVariants.{Claim, Release, Add, Delete, Listen, Unlisten, Bell, Remove, Insert, Set, Info, Table, Log, Device, Answer as Answering}
use Rattle.vub_model.specs.RingRecord.{Vring, waits, based, limit, ring_after}
use Rattle.vub_model.specs.Shared.{Shared, ring_at, with_ring}
use Rattle.vub_model.specs.Wiring.{Wiring}
use Rattle.vub_model.specs.Work.{Local, MayWork, after_work, after_take, after_took, after_put, after_said, called, used, put_said, looked, entry_of}
use Rattle.vub_model.specs.Control.{MayControl, small_after, next_used_at, tail_of}
use Rattle.vub_model.specs.Frame.{Frame, frame_of}
use Rattle.vub_model.specs.Service.{Meaning}
use Rattle.vub_model.specs.World.{World, May, after, after_guest, phase_at, take_of, takes_by}
use Rattle.vub_model.specs.RunOf.{party_of, next, IsRun}
use Rattle.vub_model.specs.Running.{calm_after}
use Rattle.vub_model.specs.Headline.{takes_of}
use Rattle.vub_model.specs.Schedule.{Fits, SetFits, Invariant}
use Rattle.vub_model.specs.Bases.{given_by, bases_given, numbers, count_up}
use Rattle.vub_model.proofs.Cases.{work-cases, event-shared, take-leaf, none-leaf, said-cases}
use Rattle.vub_model.proofs.Turns.{turn-cases, turn-next}
use Rattle.vub_model.proofs.Live.{looked-live, live-taken, serving-takes}
use Rattle.vub_model.proofs.Counting.{field-kept, ring-own, ring-other}
use Rattle.vub_model.proofs.FlowSteps.{pushed, left_out}
use Rattle.vub_model.proofs.Numbers.{RingNumbered, Numbered, numbers-other, number-step}
use Rattle.vub_model.proofs.Settings.{Kept, by-setting, by-info}
use Rattle.vub_model.proofs.SmallRings.{first-fits}
use Rattle.vub_model.proofs.SchedRuns.{IsFew, invariant-turn, few-turn}
use Rattle.vub_model.proofs.Served.{number-small}
use Rattle.vub_model.proofs.Openings.{IsFresh}

-- The ring has the last of these bases, one for each epoch, and the takes of each earlier epoch are numbered on from its.
pub record HasBases (bases : List ℕ) (r : Vring) (takes : List Take) : Type 0 where
  pub count : length bases ≡ r.epoch + 1
  pub last : slice_index_or bases r.epoch 0 ≡ r.base
  pub each : (e : ℕ) → e < r.epoch → (n : ℕ) × (numbers e takes ≡ count_up (slice_index_or bases e 0) n)

-- each queue has its bases
abbrev pub AllFrom : {V : Type 0} → World V → (ℕ → List ℕ) → Type 0
AllFrom w bases = (q : ℕ) → HasBases (bases q) (ring_at w.shared q) (takes_of q w.takes)

-- epoch and base stay, and no take is added to an earlier epoch
pub record Stays (old new : Vring) (takes more : List Take) : Type 0 where
  pub epoch : new.epoch ≡ old.epoch
  pub base : new.base ≡ old.base
  pub past : (e : ℕ) → e < old.epoch → numbers e more ≡ numbers e takes

stays-from : (bases : List ℕ) (old new : Vring) (takes more : List Take) → Stays old new takes more → HasBases bases old takes → HasBases bases new more
stays-from bases old new takes more s from = record {
  count = from.count ∙ ap (λ e. e + 1) (sym s.epoch);
  last = ap (λ e. slice_index_or bases e 0) s.epoch ∙ (from.last ∙ sym s.base);
  each = λ e low. let was = from.each e (omega (arith, low, s.epoch)) in (was.0, s.past e (omega (arith, low, s.epoch)) ∙ was.1);
}

module _ {V : Type 0} (g : Wiring) (h : Shared V) (takes : List Take) where
  abbrev After : Play → Local V → Type 0
  After l local = (q : ℕ) → Stays (ring_at h q) (ring_at local.shared q) (takes_of q takes) (takes_of q (takes ++ takes_by l local.phase))

  still : (l : Play) (local : Local V) → takes_by l local.phase ≡ [] → ((q : ℕ) → (ring_at local.shared q).epoch ≡ (ring_at h q).epoch) → ((q : ℕ) → (ring_at local.shared q).base ≡ (ring_at h q).base) → After l local
  still l local none epochs bases q = record { epoch = epochs q; base = bases q; past = λ e low. rw (none, append-nil takes) refl }

  entry-stays : (p : ℕ) (rest : List ℕ) (c : Chain) → looked h p ≡ took.Entry c → After play.Take (after_took h p rest (took.Entry c))
  entry-stays p rest c is q =
      let t : Take = take_of (entry_of p (ring_at h p) c) in
      let r = ring_after (ring_at h p) op.Taken in
      let live = live-taken (ring_at h p) (looked-live h p c is) in
      record {
        epoch = field-kept (λ (x : Vring). x.epoch) h p r (ap (λ (x : Vring). x.epoch) live) q;
        base = field-kept (λ (x : Vring). x.base) h p r (ap (λ (x : Vring). x.base) live) q;
        past = λ e low. elim (cases_eq p q) [
          | inl same ↦
              (let other : t.epoch ≡ e → ⊥ = λ eq. let here : (ring_at h q).epoch ≡ e = ap (λ i. (ring_at h i).epoch) (sym same) ∙ eq in absurd (omega (arith, low, here)) in
              ap (numbers e) (pushed (λ (t : Take). t.queue) q takes t same) ∙ numbers-other e (takes_of q takes) t other)
          | inr other ↦ ap (numbers e) (left_out (λ (t : Take). t.queue) q takes t other)
        ];
      }

  take-stays : (queues : List ℕ) → After play.Take (after_take h queues)
  take-stays [] = still play.Take (after_take h []) refl (λ q. refl) (λ q. refl)
  take-stays (p ∷ rest) =
      take-leaf h (After play.Take) p rest
      (entry-stays p rest)
      (λ is. still play.Take (after_took h p rest took.None) (serving-takes rest) (none-leaf h (λ x. (q : ℕ) → (ring_at x q).epoch ≡ (ring_at h q).epoch) p (λ live q. refl) (λ dead q. refl)) (none-leaf h (λ x. (q : ℕ) → (ring_at x q).base ≡ (ring_at h q).base) p (λ live q. refl) (λ dead q. refl)))
      (λ d is. still play.Take (after_took h p rest (took.Damaged d)) refl (λ q. refl) (λ q. refl))

  called-field : {X : Type 0} (f : Vring → X) (z : Shared V) (call : Option ℕ) (wanted : Bool) (q : ℕ) → f (ring_at (called z call wanted) q) ≡ f (ring_at z q)
  called-field f z call false q = refl
  called-field f z None true q = refl
  called-field f z (Some object) true q = refl

  put-stays : (e : Entry) (reply queues : List ℕ) → After play.Put (after_put h e reply queues)
  put-stays e reply queues =
      said-cases (put_said h e reply) (λ said. After play.Put (after_said h e reply queues said))
      (λ wanted is. still play.Put (after_said h e reply queues (Ok wanted)) refl
      (λ q. called-field (λ (x : Vring). x.epoch) (used h e reply) (ring_at h e.queue).call wanted q ∙ field-kept (λ (x : Vring). x.epoch) h e.queue (ring_after (ring_at h e.queue) op.Put) refl q)
      (λ q. called-field (λ (x : Vring). x.base) (used h e reply) (ring_at h e.queue).call wanted q ∙ field-kept (λ (x : Vring). x.base) h e.queue (ring_after (ring_at h e.queue) op.Put) refl q))
      (λ fault is. still play.Put (after_said h e reply queues (Err fault)) refl
      (λ q. field-kept (λ (x : Vring). x.epoch) h e.queue (ring_after (ring_at h e.queue) op.Hold) refl q)
      (λ q. field-kept (λ (x : Vring). x.base) h e.queue (ring_after (ring_at h e.queue) op.Hold) refl q))

  pub work-stays : (m : Meaning V) (k : ℕ) (phase : Phase) (l : Play) → MayWork g k h phase l → After l (after_work m g k h phase l)
  work-stays m k =
      work-cases g k h (λ phase l. After l (after_work m g k h phase l))
      (λ object ready. still (play.Poll object) (after_work m g k h Idle (play.Poll object)) refl (λ q. refl) (λ q. refl))
      (λ object token. still play.Event (after_work m g k h (Polled object token) play.Event) refl (event-shared g k h (λ x. (q : ℕ) → (ring_at x q).epoch ≡ (ring_at h q).epoch) object token (λ q. refl) (λ o q. refl)) (event-shared g k h (λ x. (q : ℕ) → (ring_at x q).base ≡ (ring_at h q).base) object token (λ q. refl) (λ o q. refl)))
      (still play.Sweep (after_work m g k h Sweep play.Sweep) refl (λ q. refl) (λ q. refl))
      (λ token said. still (play.Hear said) (after_work m g k h (Heard token) (play.Hear said)) refl (λ q. refl) (λ q. refl))
      take-stays
      (λ e queues. still play.Serve (after_work m g k h (Taken e queues) play.Serve) refl (λ q. refl) (λ q. refl))
      put-stays

-- a new base begins a new epoch
new-epoch : (bases : List ℕ) (r : Vring) (takes : List Take) (n : ℕ) → RingNumbered r takes → HasBases bases r takes → HasBases (bases ++ n ∷ []) (record r { epoch = r.epoch + 1; base = n }) takes
new-epoch bases r takes n at from = record {
  count = length-append bases (n ∷ []) ∙ ap (λ x. x + 1) from.count;
  last = get_or_at bases n [] 0 (r.epoch + 1) from.count;
  each = λ e low. elim (cases_eq e r.epoch) [
    | inl same ↦ (r.taken, (let left : slice_index_or (bases ++ n ∷ []) e 0 ≡ r.base = get_or_append_left bases (n ∷ []) 0 e (let c = from.count in omega (arith, c, low)) ∙ (ap (λ e. slice_index_or bases e 0) same ∙ from.last) in ap (λ e. numbers e takes) same ∙ (at.now ∙ ap (λ b. count_up b r.taken) (sym left))))
    | inr other ↦ (let was = from.each e (omega (arith, low, other)) in (was.0, was.1 ∙ ap (λ b. count_up b was.0) (sym (get_or_append_left bases (n ∷ []) 0 e (let c = from.count in omega (arith, c, low))))))
  ];
}

-- a change of a ring that is no new base
abbrev SameEpoch : Vring → Vring → Type 0
SameEpoch r x = (x.epoch ≡ r.epoch) × (x.base ≡ r.base)

epochs-kept : (r : Vring) → Kept (SameEpoch r) r
epochs-kept r =
    record {
      same = (refl, refl);
      ready = λ b. (refl, refl);
      size = λ n ok. (refl, refl);
      enabled = λ b. (refl, refl);
      event_idx = λ b. (refl, refl);
      kick = λ k. (refl, refl);
      call = λ c. (refl, refl);
      err = λ e. (refl, refl);
      addresses = λ a. (refl, refl);
      used = λ a n. (refl, refl);
    }

epoch-kept : (g : Wiring) (f : Frame) (q : ℕ) (r : Vring) (o : RingOp) → SetFits g f q o → ((n : ℕ) → o ≡ op.SetBase n → ⊥) → ((ring_after r o).epoch ≡ r.epoch) × ((ring_after r o).base ≡ r.base)
epoch-kept g f q r o ok other = by-setting (SameEpoch r) r (epochs-kept r) g f q o ok (λ n is low. absurd (other n is))

info-epoch : (r : Vring) (desc avail used : ℕ) (more : Option ℕ) → SameEpoch r (ring_after r (op.SetInfo desc avail used more))
info-epoch r desc avail used more = by-info (SameEpoch r) r (epochs-kept r) desc avail used more

module _ {V : Type 0} (w : World V) (calm : ℕ → Bool) (i : Invariant w calm) (numbered : Numbered w) (bases : ℕ → List ℕ) (from : AllFrom w bases) where
  abbrev h : Shared V
  h = w.shared

  abbrev Now : Small → DeviceSaid → ℕ → Type 0
  Now s said q = HasBases (bases q ++ given_by w party.Control (play.Control s said) q) (ring_at (small_after w.wiring h s) q) (takes_of q w.takes)

  -- no base is given, and the ring has its epoch and base
  no-base : (q : ℕ) (r : Vring) → r.epoch ≡ (ring_at h q).epoch → r.base ≡ (ring_at h q).base → HasBases (bases q ++ []) r (takes_of q w.takes)
  no-base q r epoch base = rw (append-nil (bases q)) (stays-from (bases q) (ring_at h q) r (takes_of q w.takes) (takes_of q w.takes) (record { epoch = epoch; base = base; past = λ e low. refl }) (from q))

  ring-kept : (q p : ℕ) (r : Vring) → (r.epoch ≡ (ring_at h p).epoch) × (r.base ≡ (ring_at h p).base) → HasBases (bases q ++ []) (ring_at (with_ring h p r) q) (takes_of q w.takes)
  ring-kept q p r same = no-base q (ring_at (with_ring h p r) q) (field-kept (λ (x : Vring). x.epoch) h p r same.0 q) (field-kept (λ (x : Vring). x.base) h p r same.1 q)

  base-from : (p n : ℕ) → p < length h.rings → waits (ring_at h p) (op.SetBase n) ≡ false → (said : DeviceSaid) (q : ℕ) → Now (Set p (op.SetBase n)) said q
  base-from p n within ready said q = elim (cases_eq q p) [
    | inl same ↦ (let P : ℕ → Type 0 = λ q. Now (Set p (op.SetBase n)) said q in subst P (sym same) here)
    | inr other ↦ (let B : Bool → Type 0 = λ b. HasBases (bases q ++ cond (b && nat_lt (ring_at h p).epoch limit) (n ∷ []) []) (ring_at (with_ring h p (ring_after (ring_at h p) (op.SetBase n))) q) (takes_of q w.takes) in
        subst B (sym (ne_eqb q p other)) (let R : Vring → Type 0 = λ r. HasBases (bases q ++ []) r (takes_of q w.takes) in subst R (sym (ring-other h p (ring_after (ring_at h p) (op.SetBase n)) q other)) (no-base q (ring_at h q) refl refl)))
  ] where
    r : Vring
    r = ring_at h p

    ring-is : ring_at (with_ring h p (ring_after (ring_at h p) (op.SetBase n))) p ≡ based (ring_at h p) n
    ring-is = ring-own h p (ring_after (ring_at h p) (op.SetBase n)) within ∙ ap (λ b. cond {A = Vring} (not b && true) (based (ring_at h p) n) (ring_at h p)) ready

    by : (b : Bool) → nat_lt (ring_at h p).epoch limit ≡ b → HasBases (bases p ++ cond (true && b) (n ∷ []) []) (cond {A = Vring} b (record (ring_at h p) { queue = record (ring_at h p).queue { next_avail = n }; epoch = (ring_at h p).epoch + 1; base = n; taken = 0 }) (ring_at h p)) (takes_of p w.takes)
    by true few = stays-from (bases p ++ n ∷ []) (record (ring_at h p) { epoch = (ring_at h p).epoch + 1; base = n }) _ (takes_of p w.takes) (takes_of p w.takes) (record { epoch = refl; base = refl; past = λ e low. refl }) (new-epoch (bases p) (ring_at h p) (takes_of p w.takes) n (numbered p) (from p))
    by false few = no-base p (ring_at h p) refl refl

    here : Now (Set p (op.SetBase n)) said p
    here =
        let B : Bool → Type 0 = λ b. HasBases (bases p ++ cond (b && nat_lt (ring_at h p).epoch limit) (n ∷ []) []) (ring_at (with_ring h p (ring_after (ring_at h p) (op.SetBase n))) p) (takes_of p w.takes) in
        let R : Vring → Type 0 = λ r. HasBases (bases p ++ cond (true && nat_lt (ring_at h p).epoch limit) (n ∷ []) []) r (takes_of p w.takes) in
        subst B (sym (eq-eqb p p refl)) (subst R (sym ring-is) (by (nat_lt (ring_at h p).epoch limit) refl))

  small-from : (s : Small) (said : DeviceSaid) → Fits w.wiring (frame_of h) w.control.plan.reply s (tail_of w.control.plan.steps) → Rattle.vub_model.specs.Control.waits_now h s ≡ false → (q : ℕ) → Now s said q
  small-from (Set p (op.SetBase n)) said ok ready q = base-from p n (let e = i.rings_size in omega (arith, e, ok.0)) ready said q
  small-from (Set p op.Taken) said ok ready q = absurd ok.1
  small-from (Set p op.Put) said ok ready q = absurd ok.1
  small-from (Set p op.Hold) said ok ready q = absurd ok.1
  small-from (Set p (op.SetInfo desc avail used more)) said ok ready q = absurd ok.1
  small-from (Set p (op.SetReady b)) said ok ready q = ring-kept q p _ (epoch-kept w.wiring (frame_of h) p (ring_at h p) (op.SetReady b) ok.1 (λ n e. absurd cc))
  small-from (Set p (op.SetSize b)) said ok ready q = ring-kept q p _ (epoch-kept w.wiring (frame_of h) p (ring_at h p) (op.SetSize b) ok.1 (λ n e. absurd cc))
  small-from (Set p (op.SetEnabled b)) said ok ready q = ring-kept q p _ (refl, refl)
  small-from (Set p (op.SetEventIdx b)) said ok ready q = ring-kept q p _ (refl, refl)
  small-from (Set p (op.SetKick b)) said ok ready q = ring-kept q p _ (refl, refl)
  small-from (Set p (op.SetCall b)) said ok ready q = ring-kept q p _ (refl, refl)
  small-from (Set p (op.SetErr b)) said ok ready q = ring-kept q p _ (refl, refl)
  small-from (Set p op.GetBase) said ok ready q = ring-kept q p _ (refl, refl)
  small-from (Info p desc avail used) said ok ready q = ring-kept q p _ (info-epoch (ring_at h p) desc avail used (next_used_at h.guest used))
  small-from (Claim o p) said ok ready q = no-base q (ring_at h q) refl refl
  small-from (Release o) said ok ready q = no-base q (ring_at h q) refl refl
  small-from (Add k o n) said ok ready q = no-base q (ring_at h q) refl refl
  small-from (Delete k o) said ok ready q = no-base q (ring_at h q) refl refl
  small-from (Listen k o n) said ok ready q = no-base q (ring_at h q) refl refl
  small-from (Unlisten k o a) said ok ready q = no-base q (ring_at h q) refl refl
  small-from (Bell o) said ok ready q = no-base q (ring_at h q) refl refl
  small-from (Remove k n) said ok ready q = no-base q (ring_at h q) refl refl
  small-from (Insert k n) said ok ready q = no-base q (ring_at h q) refl refl
  small-from (Table change) said ok ready q = no-base q (ring_at h q) refl refl
  small-from (Log o offset size) said ok ready q = no-base q (ring_at h q) refl refl
  small-from (Device call) said ok ready q = no-base q (ring_at h q) refl refl
  small-from Answering said ok ready q = no-base q (ring_at h q) refl refl

  ready-of : (steps : List Small) (s : Small) (said : DeviceSaid) → MayControl h steps s said → Rattle.vub_model.specs.Control.waits_now h s ≡ false
  ready-of [] s said may = absurd may
  ready-of (t ∷ rest) s said may = ap (Rattle.vub_model.specs.Control.waits_now h) may.0 ∙ may.1

  guest-from : (actions : List Guest) → AllFrom (after_guest w actions) (λ q. bases q ++ [])
  guest-from [] q = no-base q (ring_at h q) refl refl
  guest-from (Store object offset bytes ∷ actions) q = no-base q (ring_at h q) refl refl
  guest-from (Harvest object word ∷ actions) q = no-base q (ring_at h q) refl refl
  guest-from (Signal object ∷ actions) q = no-base q (ring_at h q) refl refl

  pub step-from : (m : Meaning V) (p : Party) (l : Play) → May w p l → AllFrom (after m w p l) (λ q. bases q ++ given_by w p l q)
  step-from m party.Guest play.Guest may = guest-from w.guest
  step-from m party.Control (play.Control s said) may = λ q. small-from s said (first-fits w calm i s said may) (ready-of w.control.plan.steps s said may) q
  step-from m (party.Worker k) l may = λ q. rw (append-nil (bases q)) (stays-from (bases q) (ring_at h q) _ (takes_of q w.takes) _ (work-stays w.wiring h w.takes m k (phase_at w.phases k) l may q) (from q))
  step-from m p l may = absurd may

none-given : {V : Type 0} (w : World V) (p : Party) (q : ℕ) → given_by w p play.Pass q ≡ []
none-given w party.Guest q = refl
none-given w party.Control q = refl
none-given w (party.Worker k) q = refl

pub epochs-from : {V : Type 0} (m : Meaning V) (turns : List ℕ) (labels : List Play) (w z : World V) (calm : ℕ → Bool) (bases : ℕ → List ℕ) → IsFew w (length turns) → Invariant w calm → Numbered w → AllFrom w bases → IsRun m turns labels w z → AllFrom z (λ q. bases q ++ bases_given m turns labels w q)
epochs-from {V} m [] [] w z calm bases few i numbered from run q = rw (append-nil (bases q)) (subst (λ (x : World V). HasBases (bases q) (ring_at x.shared q) (takes_of q x.takes)) (sym run) (from q))
epochs-from m [] (l ∷ labels) w z calm bases few i numbered from run q = absurd run
epochs-from m (turn ∷ turns) [] w z calm bases few i numbered from run q = absurd run
epochs-from {V} m (turn ∷ turns) (l ∷ labels) w z calm bases few i numbered from run q =
    let p = party_of turn in
    let now = invariant-turn m w p run.0 calm (λ q. omega (arith, few q)) i l run.1 in
    let still = few-turn m w p run.0 calm (length turns) (λ q. omega (arith, few q)) i l run.1 in
    let mid : AllFrom run.0 (λ q. bases q ++ given_by w p l q) =
    turn-cases m w p run.0 (λ l. AllFrom run.0 (λ q. bases q ++ given_by w p l q))
    (λ same q. rw (none-given w p q, append-nil (bases q)) (subst (λ (x : World V). HasBases (bases q) (ring_at x.shared q) (takes_of q x.takes)) (sym same) (from q)))
    (λ l may is. subst (λ (x : World V). AllFrom x (λ q. bases q ++ given_by w p l q)) (sym is) (step-from w calm i numbered bases from m p l may)) l run.1 in
    let count : Numbered run.0 =
    turn-cases m w p run.0 (λ l. Numbered run.0) (λ same. subst (λ (x : World V). Numbered x) (sym same) numbered)
    (λ l may is. subst (λ (x : World V). Numbered x) (sym is) (number-step m w numbered (λ s said ok. number-small w calm i numbered s said ok) p l may)) l run.1 in
    let rest = epochs-from m turns labels run.0 z (calm_after w p l run.0 calm) (λ q. bases q ++ given_by w p l q) still now count mid run.2 q in
    let same : (bases q ++ given_by w p l q) ++ bases_given m turns labels run.0 q ≡ bases q ++ (given_by w p l q ++ bases_given m turns labels (next m w p l) q) = append_assoc (bases q) (given_by w p l q) (bases_given m turns labels run.0 q) ∙ ap (λ x. bases q ++ (given_by w p l q ++ bases_given m turns labels x q)) (turn-next m w p l run.0 run.1) in
    subst (λ b. HasBases b (ring_at z.shared q) (takes_of q z.takes)) same rest

-- at the opening each queue has its given base
pub opening-from : {V : Type 0} (w : World V) → IsFresh w → AllFrom w (λ q. (ring_at w.shared q).base ∷ [])
opening-from w fresh q = record {
  count = (let e = fresh.first_epoch q in omega (arith, e));
  last = ap (λ e. slice_index_or ((ring_at w.shared q).base ∷ []) e 0) (fresh.first_epoch q);
  each = λ e low. absurd (let f = fresh.first_epoch q in omega (arith, low, f));
}
