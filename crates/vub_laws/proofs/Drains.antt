-- A step of a worker that leaves the available index words lowers the measure.
use Rattle.std.proofs.Common.{◌≡◌, ◌≢◌, ℕ, suc, ◌+◌, ◌*◌, ◌<◌, ◌≤◌, Bool, true, false, cond, nat_lt, eqb, inl, inr, ◌⊎◌, Option, Some, None, is_some, List, [], ◌∷◌, length, map, filter, slice_index, slice_set, Result, Ok, Err, refl, sym, ap, ◌∙◌, subst, arith}
use Rattle.std.specs.Prelude.{sum_by}
use Rattle.std.specs.List.{AllByRecursion, range_with_len}
use Rattle.std.proofs.lemmas.Bool.{cond_both, eqb-true, eq-eqb, ltb-true, ltb-false}
use Rattle.std.proofs.Math.Nat.{mul-le-mul_left}
use Rattle.std.proofs.lemmas.List.{get_or-set_same, get_or-set_other}
use Rattle.vub_queue.specs.declared.chain.Chain.{Chain}
use Rattle.vub_queue.specs.declared.putting.PutFault.{PutFault}
use Rattle.vub_queue.specs.declared.took.Took.TheVariants as took
use Rattle.vub_event.specs.declared.member.Member.{Member}
use Rattle.vub_event.specs.HostTable.{members_at}
use Rattle.vub_proto.specs.declared.device_said.DeviceSaid.{DeviceSaid}
use Rattle.vub_event.specs.InterestList.{member_of}
use Rattle.vub_model.specs.declared.cause.StopCause.TheVariants.{Exit}
use Rattle.vub_model.specs.declared.entry.Entry.{Entry}
use Rattle.vub_model.specs.declared.play.Play.{Play}
use Rattle.vub_model.specs.declared.play.Play.TheVariants as play
use Rattle.vub_model.specs.declared.party.Party.TheVariants as party
use Rattle.vub_model.specs.declared.phase.Phase.{Phase}
use Rattle.vub_model.specs.declared.phase.Phase.TheVariants.{Idle, Polled, Sweep, Heard, Serving, Taken, Served, Stopped}
use Rattle.vub_model.specs.declared.wiring.Place.{Place}
use Rattle.vub_model.specs.declared.ring_op.RingOp.TheVariants as op
use Rattle.vub_model.specs.RingRecord.{Vring, is_on, has_addresses, changed, ring_after}
use Rattle.vub_model.specs.Frame.{Frame, frame_of}
use Rattle.vub_model.specs.Shared.{Shared, ring_at, count_at, pending_at, counter_read}
use Rattle.vub_model.specs.Service.{Meaning}
use Rattle.vub_model.specs.Wiring.{Wiring, opened_at, queues_of, place_of, IsPlaced, HasWorker}
use Rattle.vub_model.specs.Work.{Local, MayWork, after_work, after_event, after_kick, after_bell, after_listener, after_none, after_said, after_take, after_took, serving, queues_numbered, is_object, has_token, put_said, looked, used, called}
use Rattle.vub_model.specs.World.{World, phase_at, after}
use Rattle.vub_model.specs.Running.{index_word, HasStopped}
use Rattle.vub_model.specs.Schedule.{list_at, IsOwn, PhaseFits, Invariant}
use Rattle.vub_model.proofs.Cases.{work-cases, token-leaf, heard-leaf, take-leaf, none-leaf}
use Rattle.vub_model.proofs.Counting.{ring-other, ring-own, field-kept, frame-read}
use Rattle.vub_model.proofs.Waking.{called-ring, called-pending}
use Rattle.vub_model.proofs.Fitting.{swept-own}
use Rattle.vub_model.proofs.FlowSteps.{on-within}
use Rattle.vub_model.proofs.Live.{looked-live, live-parts, live-taken}
use Rattle.vub_model.proofs.Others.{same-pending, same-number}
use Rattle.vub_model.proofs.Owners.{within-phases}
use Rattle.vub_model.proofs.Places.{slot, few-queues, one-queue}
use Rattle.vub_model.proofs.SchedWork.{kick-ring}
use Rattle.vub_model.proofs.Shapes.{Shape, shape}
use Rattle.vub_laws.specs.Draining.{events_in, events_left, polled_off, is_place_of, all_entries_left, phase_left, work_left, measure, IsPlain}
use Rattle.vub_laws.specs.EntriesLeft.{entries_left as left_by}
use Rattle.vub_laws.proofs.EntriesLeft.{left_at, entries-same, entry-left, took-here}
use Rattle.vub_laws.proofs.EventsLeft.{Bare, read-events, raised-events, read-falls, token-falls, undone, stale-same, zero-same, poll-falls, bare-same, polls}
use Rattle.vub_laws.proofs.Sums.{sum-le, sum-falls, sum-pays, times-less}

-- what a worker has left, whatever its phase
going : {V : Type 0} → Wiring → Shared V → ℕ → Phase → ℕ
going g h k phase = 6 * events_left g h k phase + 2 * length (pending_at h k) + (6 * length g.opened + 3) * all_entries_left g h k + phase_left (length g.opened) phase

work-is : {V : Type 0} (g : Wiring) (h : Shared V) (k : ℕ) (phase : Phase) → (HasStopped phase → ⊥) → work_left g h k phase ≡ going g h k phase
unfolding going
work-is g h k (Stopped cause) goes = absurd (goes tt)
work-is g h k phase goes = refl

work-le : {V : Type 0} (g : Wiring) (h : Shared V) (k : ℕ) (phase : Phase) → work_left g h k phase ≤ going g h k phase
unfolding going
work-le g h k (Stopped cause) = omega arith
work-le g h k phase = omega arith

work-stopped : {V : Type 0} (g : Wiring) (h : Shared V) (k : ℕ) (phase : Phase) → HasStopped phase → work_left g h k phase ≡ 0
work-stopped g h k (Stopped cause) s = refl
work-stopped g h k phase s = absurd s

-- the list of the queues that are due is no longer than the numbers
numbered-short : (queues numbers : List ℕ) → length (queues_numbered queues numbers) ≤ length numbers
numbered-short queues [] = omega arith
numbered-short queues (n ∷ numbers) = by (nat_lt n (length queues)) (numbered-short queues numbers) where
  by : (b : Bool) → length (queues_numbered queues numbers) ≤ length numbers → length (map (λ n. slice_index queues n) (cond b (n ∷ filter (λ n. nat_lt n (length queues)) numbers) (filter (λ n. nat_lt n (length queues)) numbers))) ≤ length (n ∷ numbers)
  by true short = omega (arith, short)
  by false short = omega (arith, short)

serving-weight : (workers : ℕ) (queues : List ℕ) → phase_left workers (serving queues) ≤ 1 + 2 * length queues
serving-weight workers [] = omega arith
serving-weight workers (q ∷ queues) = omega arith

serving-bare : (n : ℕ) (ms : List Member) (queues : List ℕ) → Bare n ms (serving queues)
serving-bare n ms [] o = refl
serving-bare n ms (q ∷ queues) o = refl

has-own : (P : Member → Type 0) (ms : List Member) (o : ℕ) → AllByRecursion P ms → (b : Option Member) → member_of ms o ≡ b → (token : ℕ) → has_token b token ≡ true → (m : Member) × P m × (m.object ≡ o) × (m.token ≡ token)
has-own P [] o all None is token has = absurd cc
has-own P [] o all (Some m) is token has = absurd cc
has-own P (m ∷ ms) o all b is token has = by (eqb m.object o) refl is (λ is. has-own P ms o all.1 b is token has) where
  by : (c : Bool) → eqb m.object o ≡ c → cond c (Some m) (member_of ms o) ≡ b → (member_of ms o ≡ b → (m : Member) × P m × (m.object ≡ o) × (m.token ≡ token)) → (m : Member) × P m × (m.object ≡ o) × (m.token ≡ token)
  by true here is more = (m, all.0, eqb-true m.object o here, (let has' : has_token (Some m) token ≡ true = ap (λ x. has_token x token) is ∙ has in eqb-true m.token token has'))
  by false here is more = more is

module _ {V : Type 0} (m : Meaning V) (w : World V) (calm : ℕ → Bool) (i : Invariant w calm) (plain : IsPlain w.wiring w.shared.table) (j : ℕ) (low : j < length w.wiring.opened) where
  abbrev g : Wiring
  g = w.wiring

  abbrev h : Shared V
  h = w.shared

  abbrev f : Frame
  f = frame_of h

  abbrev ms : ℕ → List Member
  ms k = members_at h.table (opened_at g k).list

  abbrev n : ℕ
  n = g.queues

  abbrev workers : ℕ
  workers = length g.opened

  -- the events left of a worker after a step, by the table
  events-by : (z : Shared V) → frame_of z ≡ f → (k : ℕ) (p : Phase) → events_left g z k p ≡ events_in n (ms k) z.table p
  events-by z same k p = ap (λ (x : Frame). events_in n (list_at g x k) z.table p) same

  -- What a step does to another worker

  record Others (z : Shared V) (more : ℕ) : Type 0 where
    events : (k : ℕ) (p : Phase) → events_left g z k p ≤ events_left g h k p + more
    pending : (k : ℕ) → k ≢ j → pending_at z k ≡ pending_at h k
    entries : (q : ℕ) → (HasWorker g q j → ⊥) → left_at z q ≡ left_at h q

  entries-term : (z : Shared V) (more : ℕ) → Others z more → (k : ℕ) → k ≢ j → (q : ℕ) (found : Option Place) → place_of g q ≡ found → cond (is_place_of found k) (left_at z q) 0 ≤ cond (is_place_of found k) (left_at h q) 0
  entries-term z more o k other q None is = omega arith
  entries-term z more o k other q (Some p) is = by (eqb p.worker k) refl where
    by : (b : Bool) → eqb p.worker k ≡ b → cond b (left_at z q) 0 ≤ cond b (left_at h q) 0
    by true here = omega (
      arith,
      o.entries q (λ has.
          let e : Some (record { worker = j; number = has.0 }) ≡ Some p = sym has.1.place ∙ is in
          let same : record { worker = j; number = has.0 } ≡ p = cc in
          other (sym (ap (λ (x : Place). x.worker) same ∙ eqb-true p.worker k here))),
    )
    by false here = omega arith

  all-entries : (z : Shared V) (more : ℕ) → Others z more → (k : ℕ) → k ≢ j → all_entries_left g z k ≤ all_entries_left g h k
  all-entries z more o k other = sum-le (λ q. cond (is_place_of (place_of g q) k) (left_at z q) 0) (λ q. cond (is_place_of (place_of g q) k) (left_at h q) 0) g.queues 0 (λ q above. entries-term z more o k other q (place_of g q) refl)

  other-work : (z : Shared V) (more : ℕ) → more ≤ 1 → Others z more → (k : ℕ) → k ≢ j → (p : Phase) → work_left g z k p ≤ work_left g h k p + 6 * more
  other-work z more one o k other (Stopped cause) = omega arith
  other-work z more one o k other p =
      let product : (6 * workers + 3) * all_entries_left g z k ≤ (6 * workers + 3) * all_entries_left g h k = mul-le-mul_left (6 * workers + 3) (all-entries z more o k other) in
      omega (arith, one, product, o.events k p, ap (λ l. 2 * length l) (o.pending k other))

  -- What a step costs

  -- the worker's own events, pending numbers and entries, and the weight of its phase
  record Own (z : Local V) (before : Phase) (more least : ℕ) : Type 0 where
    others : Others z.shared more
    own : (HasStopped z.phase × (least ≤ phase_left workers before + 6 * more)) ⊎ (going g z.shared j z.phase + least ≤ going g h j before + 6 * more)

  own-work : (z : Local V) (before : Phase) (more least : ℕ) → (HasStopped before → ⊥) → Own z before more least → work_left g z.shared j z.phase + least ≤ work_left g h j before + 6 * more
  unfolding going
  own-work z before more least goes x =
      elim x.own [
        | inl s ↦ omega (arith, work-stopped g z.shared j z.phase s.0, s.1, work-is g h j before goes)
        | inr le ↦ omega (arith, work-le g z.shared j z.phase, le, work-is g h j before goes)
      ]

  -- a step that leaves the entries
  quiet-own : (z : Local V) (before : Phase) (more least : ℕ) → Others z.shared more → ((q : ℕ) → left_at z.shared q ≡ left_at h q)
      → 6 * events_left g z.shared j z.phase + 2 * length (pending_at z.shared j) + phase_left workers z.phase + least ≤ 6 * events_left g h j before + 2 * length (pending_at h j) + phase_left workers before + 6 * more → Own z before more least
  unfolding going
  quiet-own z before more least o entries le =
      let same : all_entries_left g z.shared j ≤ all_entries_left g h j = sum-le (λ q. cond (is_place_of (place_of g q) j) (left_at z.shared q) 0) (λ q. cond (is_place_of (place_of g q) j) (left_at h q) 0) g.queues 0 (λ q above. omega (arith, ap (λ n. cond (is_place_of (place_of g q) j) n 0) (entries q))) in
      let product : (6 * workers + 3) * all_entries_left g z.shared j ≤ (6 * workers + 3) * all_entries_left g h j = mul-le-mul_left (6 * workers + 3) same in
      record { others = o; own = inr (omega (arith, product, le)) }

  -- nothing that is shared changes
  still : Others h 0
  still = record { events = λ k p. omega arith; pending = λ k other. refl; entries = λ q has. refl }

  -- a counter is read
  read-others : (o : ℕ) → Others (counter_read h o) 0
  read-others o = record {
    events = λ k p. omega (arith, events-by (counter_read h o) (frame-read h o) k p, read-events n (ms k) h.table o p);
    pending = λ k other. refl;
    entries = λ q has. refl;
  }

  -- Event

  abbrev Leaf : ℕ → ℕ → Local V → Type 0
  Leaf object token z = Own z (Polled object token) 0 1

  bare : (p : Phase) → ((o : ℕ) → polled_off p (ms j) o ≡ 0) → Bare n (ms j) p
  bare p is = is

  read-own : (object token : ℕ) → (token ≡ n → ⊥) → (p : Phase) → Bare n (ms j) p → phase_left workers p ≤ 3 → Leaf object token (record { shared = counter_read h object; phase = p })
  read-own object token apart p bare light =
      quiet-own (record { shared = counter_read h object; phase = p }) (Polled object token) 0 1 (read-others object) (λ q. refl)
      (omega (arith, light, events-by (counter_read h object) (frame-read h object) j p, token-falls n (ms j) h.table object token p bare apart))

  -- an event that is not the kick of the queue with its token is no member under that token
  not-member : (object token q : ℕ) → IsPlaced g q j token → is_object (ring_at h q).kick object ≡ false → has_token (member_of (ms j) object) token ≡ false
  not-member object token q at other = by (has_token (member_of (ms j) object) token) refl where
    some-object : (kick : Option ℕ) (x : ℕ) → kick ≡ Some x → is_object kick x ≡ true
    some-object None x is = absurd cc
    some-object (Some y) x is = eq-eqb y x (let h : Some y ≡ Some x = is in cc)

    own : (m : Member) → IsOwn g f j m → m.object ≡ object → m.token ≡ token → ⊥
    own m its here there =
        elim its.is [
          | inl kick ↦
              (let P : ℕ → Type 0 = λ t. IsPlaced g kick.queue j t in
              let same : kick.queue ≡ q = one-queue g kick.queue q j token (subst P there kick.placed) at in
              let K : ℕ → Type 0 = λ x. (ring_at h x).kick ≡ Some m.object in
              let its : (ring_at h q).kick ≡ Some m.object = subst K same (sym (kick-ring h kick.queue) ∙ kick.kick) in
              let yes = some-object (ring_at h q).kick object (its ∙ ap (λ x. Some x) here) in
              absurd cc)
          | inr (inl bell) ↦ (let at' = slot g q j token at in omega (arith, at'.0, few-queues g j, bell.token, there))
          | inr (inr heard) ↦ (let at' = slot g q j token at in omega (arith, at'.0, few-queues g j, heard.token, there))
        ]

    by : (b : Bool) → has_token (member_of (ms j) object) token ≡ b → b ≡ false
    by true has = absurd (let found = has-own (IsOwn g f j) (ms j) object (i.linked.members j low) (member_of (ms j) object) refl token has in own found.0 found.1 found.2 found.3)
    by false has = refl

  kick-own : (object token q : ℕ) → IsPlaced g q j token → Leaf object token (after_kick h q object)
  kick-own object token q at =
      let apart : token ≡ n → ⊥ = λ same. (let low = slot g q j token at in omega (arith, low.0, few-queues g j, same)) in
      cond_both {A = Local V} (is_object (ring_at h q).kick object) (record { shared = counter_read h object; phase = cond (is_on (ring_at h q)) (Serving (q ∷ [])) Idle }) (record { shared = h; phase = Idle }) (Leaf object token)
      (λ its. cond_both (is_on (ring_at h q)) (Serving (q ∷ [])) Idle (λ p. Leaf object token (record { shared = counter_read h object; phase = p }))
      (λ on. read-own object token apart (Serving (q ∷ [])) (λ o. refl) (omega arith))
      (λ off. read-own object token apart Idle (λ o. refl) (omega arith)))
      (λ other. quiet-own (record { shared = h; phase = Idle }) (Polled object token) 0 1 still (λ q. refl)
      (omega (arith, stale-same n (ms j) h.table object token Idle (λ o. refl) (not-member object token q at other))))

  -- a listener is heard, or is none under its token
  heard-own : (object token : ℕ) → (token ≡ n → ⊥) → Leaf object token (after_listener h (opened_at g j).list object token)
  heard-own object token apart =
      cond_both {A = Local V} (has_token (member_of (ms j) object) token) (record { shared = counter_read h object; phase = Heard token }) (record { shared = h; phase = Idle }) (Leaf object token)
      (λ has. read-own object token apart (Heard token) (λ o. refl) (omega arith))
      (λ other. quiet-own (record { shared = h; phase = Idle }) (Polled object token) 0 1 still (λ q. refl)
      (omega (arith, stale-same n (ms j) h.table object token Idle (λ o. refl) other)))

  -- the bell is at zero, and there is no exit object
  silent : (object token : ℕ) → token ≡ g.queues → count_at h.table (opened_at g j).bell ≤ 0 → is_some (opened_at g j).exit ≡ false → events_in n (ms j) h.table Idle ≤ events_in n (ms j) h.table (Polled object token)
  silent object token is none alone = by (has_token (member_of (ms j) object) token) refl where
    own : (m : Member) → IsOwn g f j m → m.object ≡ object → m.token ≡ token → events_in n (ms j) h.table Idle ≤ events_in n (ms j) h.table (Polled object token)
    own m its here there =
        elim its.is [
          | inl kick ↦ absurd (let at = slot g kick.queue j m.token kick.placed in omega (arith, at.0, few-queues g j, there, is))
          | inr (inr heard) ↦ absurd (omega (arith, heard.token, there, is))
          | inr (inl bell) ↦ elim bell.object [
            | inl same ↦ zero-same n (ms j) h.table object token Idle (λ o. refl) (let C : ℕ → Type 0 = λ x. count_at h.table x ≤ 0 in subst C (sym same ∙ here) none)
            | inr exit ↦ absurd (let yes = ap is_some exit in cc)
          ]
        ]

    by : (b : Bool) → has_token (member_of (ms j) object) token ≡ b → events_in n (ms j) h.table Idle ≤ events_in n (ms j) h.table (Polled object token)
    by true has = (let found = has-own (IsOwn g f j) (ms j) object (i.linked.members j low) (member_of (ms j) object) refl token has in own found.0 found.1 found.2 found.3)
    by false has = stale-same n (ms j) h.table object token Idle (λ o. refl) has

  bell-own : (object token : ℕ) → token ≡ n → Leaf object token (after_bell h (opened_at g j).bell (opened_at g j).exit)
  bell-own object token is =
      let bell = (opened_at g j).bell in
      cond_both {A = Local V} (nat_lt 0 (count_at h.table bell)) (record { shared = counter_read h bell; phase = Sweep }) (record { shared = h; phase = cond (is_some (opened_at g j).exit) (Stopped Exit) Idle }) (Leaf object token)
      (λ above. quiet-own (record { shared = counter_read h bell; phase = Sweep }) (Polled object token) 0 1 (read-others bell) (λ q. refl)
      (omega (
        arith,
        events-by (counter_read h bell) (frame-read h bell) j Sweep,
        read-falls n (ms j) h.table bell Sweep Idle (λ o. refl) (λ o. refl) (i.linked.bell j low) (ltb-true 0 (count_at h.table bell) above) (inl (plain.bells j low)),
        undone n (ms j) h.table object token Idle (λ o. refl),
      )))
      (λ zero. cond_both (is_some (opened_at g j).exit) (Stopped Exit) Idle (λ p. Leaf object token (record { shared = h; phase = p }))
      (λ some. record { others = still; own = inl (tt, omega arith) })
      (λ none. quiet-own (record { shared = h; phase = Idle }) (Polled object token) 0 1 still (λ q. refl)
      (omega (arith, silent object token is (ltb-false 0 (count_at h.table bell) zero) none))))

  event-own : (object token : ℕ) → PhaseFits g j (Polled object token) → Leaf object token (after_event g j h object token)
  event-own object token fits =
      token-leaf h (Leaf object token) g j object token
      (λ below. elim fits [
        | inl is ↦ absurd (omega (arith, below, few-queues g j, is))
        | inr (inr high) ↦ absurd (omega (arith, below, few-queues g j, high))
        | inr (inl number) ↦
            (let at = slot g number.0 j token number.1 in
            let P : ℕ → Type 0 = λ q. Leaf object token (after_kick h q object) in
            subst P (sym at.1) (kick-own object token number.0 number.1))
      ])
      (λ past is. bell-own object token is)
      (λ past other. heard-own object token other)

  hear-own : (token : ℕ) (said : DeviceSaid) → Own (after_work m g j h (Heard token) (play.Hear said)) (Heard token) 0 1
  hear-own token said =
      heard-leaf (λ p. Own (record { shared = h; phase = p }) (Heard token) 0 1)
      (quiet-own (record { shared = h; phase = Idle }) (Heard token) 0 1 still (λ q. refl)
      (omega (arith, bare-same n (ms j) h.table Idle (Heard token) (λ o. refl) (λ o. refl))))
      (λ w. record { others = still; own = inl (tt, omega arith) })
      said

  -- Poll, Sweep, Take, Serve, Put

  poll-own : (object : ℕ) → MayWork g j h Idle (play.Poll object) → Own (after_work m g j h Idle (play.Poll object)) Idle 0 1
  poll-own object ready =
      let found = polls h.table.objects (ms j) object (plain.asks (opened_at g j).list) plain.none_hung_up ready in
      let z = after_work m g j h Idle (play.Poll object) in
      quiet-own z Idle 0 1 still (λ q. refl)
      (omega (arith, poll-falls n (ms j) h.table object _ Idle (λ o. refl) found.member found.its found.above))

  sweep-own : Own (after_work m g j h Sweep play.Sweep) Sweep 0 1
  sweep-own =
      let list = queues_numbered (queues_of g j) (pending_at h j) in
      quiet-own (after_work m g j h Sweep play.Sweep) Sweep 0 1
      (record { events = λ k p. omega arith; pending = λ k other. get_or-set_other h.pending j k [] [] other; entries = λ q has. refl })
      (λ q. refl)
      (omega (arith, bare-same n (ms j) h.table (serving list) Sweep (serving-bare n (ms j) list) (λ o. refl), serving-weight workers list, numbered-short (queues_of g j) (pending_at h j), ap length (swept-own h j)))

  serve-own : (e : Entry) (queues : List ℕ) → Own (after_work m g j h (Taken e queues) play.Serve) (Taken e queues) 0 1
  serve-own e queues =
      quiet-own (after_work m g j h (Taken e queues) play.Serve) (Taken e queues) 0 1
      (record { events = λ k p. omega arith; pending = λ k other. refl; entries = λ q has. refl }) (λ q. refl)
      (omega (arith, bare-same n (ms j) h.table (Served e [] queues) (Taken e queues) (λ o. refl) (λ o. refl)))

  -- Take

  abbrev Words : Shared V → Type 0
  Words z = (q : ℕ) → has_addresses (ring_at h q) ≡ true → index_word z q ≡ index_word h q

  place-here : (q : ℕ) → HasWorker g q j → is_place_of (place_of g q) j ≡ true
  place-here q has = ap (λ p. is_place_of p j) has.1.place ∙ eq-eqb j j refl

  entry-falls : (p : ℕ) (rest : List ℕ) (c : Chain) → HasWorker g p j → looked h p ≡ took.Entry c → Words (after_took h p rest (took.Entry c)).shared → all_entries_left g (after_took h p rest (took.Entry c)).shared j + 1 ≤ all_entries_left g h j
  entry-falls p rest c has is words =
      let z = (after_took h p rest (took.Entry c)).shared in
      let live = looked-live h p c is in
      let parts = live-parts (ring_at h p) live in
      let ring : ring_at z p ≡ changed (ring_at h p) op.Taken = ring-own h p (ring_after (ring_at h p) op.Taken) (on-within h.rings p parts.on) ∙ live-taken (ring_at h p) live in
      let left : left_at h p ≡ suc (left_at z p) = entry-left h.guest (ring_at h p) c parts.addresses (took-here h p c is) ∙ ap (λ (r : Vring). suc (left_by h.guest r)) (sym ring) in
      sum-falls (λ q. cond (is_place_of (place_of g q) j) (left_at z q) 0) (λ q. cond (is_place_of (place_of g q) j) (left_at h q) 0) g.queues 0 p (omega arith) (omega (arith, has.1.there))
      (λ q other. omega (arith, ap (λ n. cond (is_place_of (place_of g q) j) n 0) (let same = ring-other h p (ring_after (ring_at h p) op.Taken) q other in entries-same h z q refl (ap (λ (r : Vring). r.queue.addresses) same) (ap (λ (r : Vring). r.queue.next_avail) same) (words q))))
      (rw (place-here p has) (omega (arith, left)))

  take-own : (queues : List ℕ) → PhaseFits g j (Serving queues) → Others (after_take h queues).shared 0 → Shape h (after_take h queues).shared → Words (after_take h queues).shared → Own (after_take h queues) (Serving queues) 0 1
  unfolding going
  take-own [] fits o shaped words = quiet-own (after_take h []) (Serving []) 0 1 o (λ q. refl) (omega (arith, bare-same n (ms j) h.table Idle (Serving []) (λ o. refl) (λ o. refl)))
  take-own (p ∷ rest) fits o shaped words =
      take-leaf h (λ z. Others z.shared 0 → Shape h z.shared → Words z.shared → Own z (Serving (p ∷ rest)) 0 1) p rest
      (λ c is o shaped words.
      let z = after_took h p rest (took.Entry c) in
      record { others = o; own = inr (omega (arith, times-less (6 * workers + 3) _ _ (entry-falls p rest c fits.0 is words), o.events j z.phase, bare-same n (ms j) h.table z.phase (Serving (p ∷ rest)) (λ o. refl) (λ o. refl))) })
      (λ is o shaped words.
      let z = after_none h p in
      quiet-own (record { shared = z; phase = serving rest }) (Serving (p ∷ rest)) 0 1 o
      (λ q. entries-same h z q shaped.regions (shaped.addresses q) (none-leaf h (λ x. (ring_at x q).queue.next_avail ≡ (ring_at h q).queue.next_avail) p (λ live. refl) (λ not. refl)) (words q))
      (omega (
        arith,
        serving-weight workers rest,
        o.events j (serving rest),
        bare-same n (ms j) h.table (serving rest) (Serving (p ∷ rest)) (serving-bare n (ms j) rest) (λ o. refl),
        none-leaf h (λ x. length (pending_at x j) ≡ length (pending_at h j)) p (λ live. refl) (λ not. refl),
      )))
      (λ d is o shaped words. record { others = o; own = inl (tt, omega arith) })
      o shaped words

  -- Put

  put-own : (e : Entry) (reply queues : List ℕ) (said : Result Bool PutFault) → Others (after_said h e reply queues said).shared 1 → Shape h (after_said h e reply queues said).shared → Words (after_said h e reply queues said).shared → Own (after_said h e reply queues said) (Served e reply queues) 1 (6 * workers + 1)
  put-own e reply queues (Ok wanted) o shaped words =
      let z = called (used h e reply) (ring_at h e.queue).call wanted in
      quiet-own (record { shared = z; phase = serving queues }) (Served e reply queues) 1 (6 * workers + 1) o
      (λ q. entries-same h z q shaped.regions (shaped.addresses q)
      (ap (λ (x : Vring). x.queue.next_avail) (called-ring (used h e reply) (ring_at h e.queue).call wanted q) ∙ field-kept (λ (x : Vring). x.queue.next_avail) h e.queue (changed (ring_at h e.queue) op.Put) refl q) (words q))
      (omega (
        arith,
        serving-weight workers queues,
        o.events j (serving queues),
        bare-same n (ms j) h.table (serving queues) (Served e reply queues) (serving-bare n (ms j) queues) (λ o. refl),
        ap length (called-pending (used h e reply) (ring_at h e.queue).call wanted j),
      ))
  put-own e reply queues (Err fault) o shaped words = record { others = o; own = inl (tt, omega arith) }

  -- Every step

  abbrev more-of : Phase → ℕ
  more-of (Served e reply queues) = 1
  more-of phase = 0

  abbrev least-of : Phase → ℕ
  least-of (Served e reply queues) = 6 * workers + 1
  least-of phase = 1

  called-events : (z : Shared V) (call : Option ℕ) (wanted : Bool) (k : ℕ) (p : Phase) → events_in n (ms k) (called z call wanted).table p ≤ events_in n (ms k) z.table p + 1
  called-events z call false k p = omega arith
  called-events z None true k p = omega arith
  called-events z (Some object) true k p = raised-events n (ms k) z.table object p

  said-events : (e : Entry) (reply queues : List ℕ) (said : Result Bool PutFault) (k : ℕ) (p : Phase) → events_in n (ms k) (after_said h e reply queues said).shared.table p ≤ events_in n (ms k) h.table p + 1
  said-events e reply queues (Ok wanted) k p = called-events (used h e reply) (ring_at h e.queue).call wanted k p
  said-events e reply queues (Err fault) k p = omega arith

  take-table : (queues : List ℕ) → (after_take h queues).shared.table ≡ h.table
  take-table [] = refl
  take-table (p ∷ rest) = take-leaf h (λ z. z.shared.table ≡ h.table) p rest (λ c is. refl) (λ is. none-leaf h (λ x. x.table ≡ h.table) p (λ live. refl) (λ not. refl)) (λ d is. refl)

  step-others : (phase : Phase) (l : Play) → MayWork g j h phase l → PhaseFits g j phase → (more : ℕ) → ((k : ℕ) (p : Phase) → events_in n (ms k) (after_work m g j h phase l).shared.table p ≤ events_in n (ms k) h.table p + more) → Words (after_work m g j h phase l).shared → Others (after_work m g j h phase l).shared more
  step-others phase l may fits more events words =
      let z = (after_work m g j h phase l).shared in
      let shaped = shape m g j h phase l may fits in
      record {
        events = λ k p. omega (arith, events-by z shaped.frame k p, events k p);
        pending = λ k other. same-pending m g j h k (λ e. other (sym e)) phase l may fits;
        entries = λ q has. entries-same h z q shaped.regions (shaped.addresses q) (same-number m g j h q has phase l may fits) (words q);
      }

  every : (phase : Phase) (l : Play) → MayWork g j h phase l → PhaseFits g j phase → Words (after_work m g j h phase l).shared → Own (after_work m g j h phase l) phase (more-of phase) (least-of phase)
  every =
      work-cases g j h (λ phase l. PhaseFits g j phase → Words (after_work m g j h phase l).shared → Own (after_work m g j h phase l) phase (more-of phase) (least-of phase))
      (λ object ready fits words. poll-own object ready)
      (λ object token fits words. event-own object token fits)
      (λ fits words. sweep-own)
      (λ token said fits words. hear-own token said)
      (λ queues fits words. take-own queues fits (step-others (Serving queues) play.Take tt fits 0 (λ k p. omega (arith, ap (λ t. events_in n (ms k) t p) (take-table queues))) words) (shape m g j h (Serving queues) play.Take tt fits) words)
      (λ e queues fits words. serve-own e queues)
      (λ e reply queues fits words. put-own e reply queues (put_said h e reply) (step-others (Served e reply queues) play.Put tt fits 1 (said-events e reply queues (put_said h e reply)) words) (shape m g j h (Served e reply queues) play.Put tt fits) words)

  module _ (l : Play) (may : MayWork g j h (phase_at w.phases j) l) where
    abbrev z : Local V
    z = after_work m g j h (phase_at w.phases j) l

    new-work : ℕ → ℕ
    new-work k = work_left g z.shared k (phase_at (slice_set w.phases j z.phase) k)

    old-work : ℕ → ℕ
    old-work k = work_left g h k (phase_at w.phases k)

    others-pay : (more : ℕ) → more ≤ 1 → Others z.shared more → (k : ℕ) → k ≢ j → new-work k ≤ old-work k + 6 * more
    unfolding new-work old-work
    others-pay more one o k other =
        omega (arith, one, other-work z.shared more one o k other (phase_at w.phases k), ap (work_left g z.shared k) (get_or-set_other w.phases j k z.phase (Stopped Exit) other))

    own-pays : (before : Phase) → phase_at w.phases j ≡ before → (HasStopped before → ⊥) → (more least : ℕ) → Own z before more least → new-work j + least ≤ old-work j + 6 * more
    unfolding new-work old-work
    own-pays before is goes more least x =
        let within = within-phases g h w.phases j l may in
        omega (arith, own-work z before more least goes x, ap (work_left g z.shared j) (get_or-set_same w.phases j z.phase (Stopped Exit) within), ap (work_left g h j) is)

    may-goes : (phase : Phase) → phase_at w.phases j ≡ phase → HasStopped phase → ⊥
    may-goes (Stopped cause) is s = let P : Phase → Type 0 = λ p. MayWork g j h p l in subst P is may
    may-goes phase is s = absurd s

    total : (before : Phase) → phase_at w.phases j ≡ before → Own z before (more-of before) (least-of before) → sum_by new-work (range_with_len 0 workers) + 1 ≤ sum_by old-work (range_with_len 0 workers)
    total (Served e reply queues) is x =
        let all = sum-pays new-work old-work (6 * workers + 1) workers 0 j (omega arith) (omega (arith, low)) (λ k other. omega (arith, others-pay 1 (omega arith) x.others k other)) (omega (arith, own-pays (Served e reply queues) is (may-goes (Served e reply queues) is) 1 (6 * workers + 1) x)) in
        omega (arith, all)
    total before is x = plainly before is (may-goes before is) x where
      plainly : (before : Phase) → phase_at w.phases j ≡ before → (HasStopped before → ⊥) → Own z before 0 1 → sum_by new-work (range_with_len 0 workers) + 1 ≤ sum_by old-work (range_with_len 0 workers)
      plainly before is goes x =
          sum-falls new-work old-work workers 0 j (omega arith) (omega (arith, low)) (λ k other. omega (arith, others-pay 0 (omega arith) x.others k other)) (omega (arith, own-pays before is goes 0 1 x))

    -- a worker's step that leaves the available index words lowers the measure
    pub drains : Words z.shared → measure (after m w (party.Worker j) l) + 1 ≤ measure w
    unfolding new-work old-work
    drains words = total (phase_at w.phases j) refl (every (phase_at w.phases j) l may (i.phases j) words)
