-- What a worker's Event, Take and Put lead to, where the schedule invariant holds.
use Rattle.std.proofs.Common.{◌≡◌, ℕ, ◌<◌, ◌≤◌, Bool, true, cond, inl, inr, List, [], ◌∷◌, length, slice_index, is_some, sym, ◌∙◌, subst, arith}
use Rattle.std.proofs.lemmas.Bool.{cond-true}
use Rattle.vub_queue.specs.declared.chain.Chain.{Chain}
use Rattle.vub_queue.specs.declared.took.Took.{Took}
use Rattle.vub_queue.specs.declared.took.Took.TheVariants as took
use Rattle.vub_queue.specs.declared.damage.Damage.{Damage}
use Rattle.vub_queue.specs.declared.putting.PutFault.{PutFault}
use Rattle.vub_event.specs.HostTable.{members_at}
use Rattle.vub_event.specs.InterestList.{member_of}
use Rattle.vub_queue.specs.Function.{took_of}
use Rattle.vub_queue.specs.Take.{IsEmpty, Taken as TakenSo}
use Rattle.vub_queue.proofs.Walks.{takes_some}
use Rattle.vub_model.specs.declared.cause.Why.TheVariants as why
use Rattle.vub_model.specs.declared.cause.StopCause.TheVariants.{Exit}
use Rattle.vub_model.specs.declared.entry.Entry.{Entry}
use Rattle.vub_model.specs.declared.phase.Phase.TheVariants.{Idle, Polled, Sweep, Heard, Serving, Taken, Stopped}
use Rattle.vub_model.specs.declared.ring_op.RingOp.TheVariants as op
use Rattle.vub_model.specs.RingRecord.{Vring, is_on, changed}
use Rattle.vub_model.specs.Shared.{Shared, ring_at, with_ring, count_at, counter_read}
use Rattle.vub_model.specs.Wiring.{Wiring, opened_at, queues_of, IsPlaced}
use Rattle.vub_model.specs.Work.{Local, serving, stopped, is_object, after_kick, after_listener, after_event, has_token, may_take, looked, entry_of, after_none, after_take, put_said, why_of, used, called, after_put, after_said}
use Rattle.vub_model.specs.Schedule.{PhaseFits}
use Rattle.vub_model.proofs.Places.{slot, few-queues}
use Rattle.vub_model.proofs.Cases.{token-leaf, kick-leaf, bell-leaf, listener-leaf, take-leaf as look-leaf, said-cases}
use Rattle.vub_model.proofs.Live.{Live, live-parts, live-from, looked-live, live-taken}

-- what an op leaves that fits and does not wait
abbrev pub taken-ring : Vring → Vring
taken-ring r = changed r op.Taken

module _ {V : Type 0} (g : Wiring) (worker : ℕ) (h : Shared V) (P : Local V → Type 0) where
  -- an event is a kick, that is read or stale, or the bell or the exit object, or a listener
  pub event-leaf : (object token : ℕ) → PhaseFits g worker (Polled object token)
      → ((queue : ℕ) → IsPlaced g queue worker token → is_object (ring_at h queue).kick object ≡ true → P (record { shared = counter_read h object; phase = cond (is_on (ring_at h queue)) (Serving (queue ∷ [])) Idle }))
      → P (record { shared = h; phase = Idle })
      → P (record { shared = counter_read h (opened_at g worker).bell; phase = Sweep })
      → (count_at h.table (opened_at g worker).bell ≡ 0 → P (record { shared = h; phase = cond (is_some (opened_at g worker).exit) (Stopped Exit) Idle }))
      → (g.queues < token → has_token (member_of (members_at h.table (opened_at g worker).list) object) token ≡ true → P (record { shared = counter_read h object; phase = Heard token }))
      → P (after_event g worker h object token)
  event-leaf object token fits reads stale sweeps silent hears =
      token-leaf h P g worker object token (λ below. kick below fits) (λ past same. bell-leaf h P (opened_at g worker).bell (opened_at g worker).exit sweeps silent) (λ past other. listener past other fits) where
        kick : token < length (queues_of g worker) → PhaseFits g worker (Polled object token) → P (after_kick h (slice_index (queues_of g worker) token) object)
        kick below (inl is) = absurd (let few = few-queues g worker in omega (arith, few, below, is))
        kick below (inr (inr high)) = absurd (let few = few-queues g worker in omega (arith, few, below, high))
        kick below (inr (inl number)) = rw ((slot g number.0 worker token number.1).1) (kick-leaf h P number.0 object (reads number.0 number.1) stale)

        listener : length (queues_of g worker) ≤ token → (token ≡ g.queues → ⊥) → PhaseFits g worker (Polled object token) → P (after_listener h (opened_at g worker).list object token)
        listener past other (inl is) = absurd (other is)
        listener past other (inr (inr high)) = listener-leaf h P (opened_at g worker).list object token (hears high) stale
        listener past other (inr (inl number)) = absurd (let low = (slot g number.0 worker token number.1).0 in omega (arith, past, low))

  -- where a look at a live ring gives nothing, the ring is empty
  none-empty : (queue : ℕ) → looked h queue ≡ took.None → Live (ring_at h queue) → IsEmpty h.guest (ring_at h queue).queue
  unfolding looked
  none-empty queue is l =
      let took-is : took_of h.guest (ring_at h queue).queue ≡ took.None = sym (cond-true {A = Took} (may_take (ring_at h queue)) (took_of h.guest (ring_at h queue).queue) took.None (live-from (ring_at h queue) l)) ∙ is in
      let T : Took → Type 0 = λ t. TakenSo h.guest (ring_at h queue).queue t in
      (subst T took-is (takes_some h.guest (ring_at h queue).queue)).0

  -- a take finds an entry of a live ring, or nothing, or damage
  pub take-leaf : (queue : ℕ) (rest : List ℕ)
      → ((c : Chain) → Live (ring_at h queue) → P (record { shared = with_ring h queue (taken-ring (ring_at h queue)); phase = Taken (entry_of queue (ring_at h queue) c) (queue ∷ rest) }))
      → ((Live (ring_at h queue) → IsEmpty h.guest (ring_at h queue).queue) → P (record { shared = after_none h queue; phase = serving rest }))
      → ((d : Damage) → P (record { shared = h; phase = stopped (why.Damage d) }))
      → P (after_take h (queue ∷ rest))
  take-leaf queue rest entry none damaged =
      look-leaf h P queue rest
      (λ c is.
      let live = looked-live h queue c is in
      let R : Vring → Type 0 = λ r. P (record { shared = with_ring h queue r; phase = Taken (entry_of queue (ring_at h queue) c) (queue ∷ rest) }) in
      subst R (sym (live-taken (ring_at h queue) live)) (entry c (live-parts (ring_at h queue) live)))
      (λ is. none (none-empty queue is))
      (λ d is. damaged d)

  -- a put is done or refused
  pub put-leaf : (e : Entry) (reply queues : List ℕ)
      → ((wanted : Bool) → P (record { shared = called (used h e reply) (ring_at h e.queue).call wanted; phase = serving queues }))
      → ((fault : PutFault) → P (record { shared = with_ring h e.queue (changed (ring_at h e.queue) op.Hold); phase = stopped (why_of fault) }))
      → P (after_put h e reply queues)
  put-leaf e reply queues done refused =
      said-cases (put_said h e reply) (λ said. P (after_said h e reply queues said)) (λ wanted is. done wanted) (λ fault is. refused fault)
