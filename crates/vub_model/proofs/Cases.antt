-- The steps of a worker, case by case, and what each row of Event, Take and Put leads to.
use Rattle.std.proofs.Common.{arith, ◌≡◌, ℕ, ◌<◌, ◌≤◌, Bool, true, false, cond, ◌==◌, List, [], ◌∷◌, length, slice_index, Option, is_some, Result, Ok, Err, nat_lt, refl}
use Rattle.std.proofs.lemmas.Bool.{cond_both, ltb-true, ltb-false, eqb-true, eqb-false}
use Rattle.vub_queue.specs.declared.chain.Chain.{Chain}
use Rattle.vub_queue.specs.declared.damage.Damage.{Damage}
use Rattle.vub_queue.specs.declared.putting.PutFault.{PutFault}
use Rattle.vub_queue.specs.declared.took.Took.{Took}
use Rattle.vub_queue.specs.declared.took.Took.TheVariants as took
use Rattle.vub_event.specs.HostTable.{members_at}
use Rattle.vub_event.specs.InterestList.{member_of}
use Rattle.vub_model.specs.declared.cause.StopCause.TheVariants.{Exit}
use Rattle.vub_model.specs.declared.cause.Why.TheVariants as why
use Rattle.vub_proto.specs.declared.device_said.DeviceSaid.{DeviceSaid}
use Rattle.vub_proto.specs.declared.device_said.DeviceSaid.TheVariants as outcome
use Rattle.vub_model.specs.declared.entry.Entry.{Entry}
use Rattle.vub_model.specs.declared.play.Play.{Play}
use Rattle.vub_model.specs.declared.play.Play.TheVariants as play
use Rattle.vub_model.specs.declared.phase.Phase.{Phase}
use Rattle.vub_model.specs.declared.phase.Phase.TheVariants.{Idle, Polled, Sweep, Heard, Serving, Taken, Served, Stopped}
use Rattle.vub_model.specs.RingRecord.{is_on}
use Rattle.vub_model.specs.Shared.{Shared, ring_at, count_at, counter_read, is_ready}
use Rattle.vub_model.specs.Wiring.{Wiring, opened_at, queues_of}
use Rattle.vub_model.specs.Work.{published, Local, MayWork, after_event, after_kick, after_bell, after_listener, after_heard, stopped, after_take, after_took, after_none, is_object, has_token, may_take, looked}
use Rattle.vub_model.specs.declared.cause.Why.{Why}

-- a worker's step is one of seven
pub work-cases : {V : Type 0} (g : Wiring) (k : ℕ) (h : Shared V) (P : Phase → Play → Type 0)
    → ((object : ℕ) → is_ready h.table (opened_at g k).list object ≡ true → P Idle (play.Poll object))
    → ((object token : ℕ) → P (Polled object token) play.Event)
    → P Sweep play.Sweep
    → ((token : ℕ) (said : DeviceSaid) → P (Heard token) (play.Hear said))
    → ((queues : List ℕ) → P (Serving queues) play.Take)
    → ((e : Entry) (queues : List ℕ) → P (Taken e queues) play.Serve)
    → ((e : Entry) (reply queues : List ℕ) → P (Served e reply queues) play.Put)
    → (phase : Phase) (l : Play) → MayWork g k h phase l → P phase l
work-cases g k h P poll event sweep hear take serve put Idle (play.Poll object) may = poll object may
work-cases g k h P poll event sweep hear take serve put (Polled object token) play.Event may = event object token
work-cases g k h P poll event sweep hear take serve put Sweep play.Sweep may = sweep
work-cases g k h P poll event sweep hear take serve put (Heard token) (play.Hear said) may = hear token said
work-cases g k h P poll event sweep hear take serve put (Serving queues) play.Take may = take queues
work-cases g k h P poll event sweep hear take serve put (Taken e queues) play.Serve may = serve e queues
work-cases g k h P poll event sweep hear take serve put (Served e reply queues) play.Put may = put e reply queues
work-cases g k h P poll event sweep hear take serve put phase l may = absurd may

-- the device has handled the event, or refused it
pub heard-leaf : (P : Phase → Type 0) → P Idle → ((w : Why) → P (stopped w)) → (said : DeviceSaid) → P (after_heard said)
heard-leaf P idle ends outcome.Done = idle
heard-leaf P idle ends (outcome.Content bytes) = idle
heard-leaf P idle ends (outcome.Object object) = idle
heard-leaf P idle ends (outcome.Number n) = idle
heard-leaf P idle ends (outcome.Refused n) = ends (why.Device n)

module _ {V : Type 0} (h : Shared V) (P : Local V → Type 0) where
  pub kick-leaf : (q object : ℕ)
      → (is_object (ring_at h q).kick object ≡ true → P (record { shared = counter_read h object; phase = cond (is_on (ring_at h q)) (Serving (q ∷ [])) Idle }))
      → P (record { shared = h; phase = Idle })
      → P (after_kick h q object)
  kick-leaf q object reads stale =
      cond_both {A = Local V} (is_object (ring_at h q).kick object) (record { shared = counter_read h object; phase = cond (is_on (ring_at h q)) (Serving (q ∷ [])) Idle }) (record { shared = h; phase = Idle }) P reads (λ other. stale)

  pub bell-leaf : (bell : ℕ) (exit : Option ℕ)
      → P (record { shared = counter_read h bell; phase = Sweep })
      → (count_at h.table bell ≡ 0 → P (record { shared = h; phase = cond (is_some exit) (Stopped Exit) Idle }))
      → P (after_bell h bell exit)
  bell-leaf bell exit sweeps silent =
      cond_both {A = Local V} (nat_lt 0 (count_at h.table bell)) (record { shared = counter_read h bell; phase = Sweep }) (record { shared = h; phase = cond (is_some exit) (Stopped Exit) Idle }) P
      (λ above. sweeps)
      (λ none. silent (let low = ltb-false 0 (count_at h.table bell) none in omega arith))

  pub listener-leaf : (list object token : ℕ)
      → (has_token (member_of (members_at h.table list) object) token ≡ true → P (record { shared = counter_read h object; phase = Heard token }))
      → P (record { shared = h; phase = Idle })
      → P (after_listener h list object token)
  listener-leaf list object token hears stale =
      cond_both {A = Local V} (has_token (member_of (members_at h.table list) object) token) (record { shared = counter_read h object; phase = Heard token }) (record { shared = h; phase = Idle }) P hears (λ other. stale)

  -- by its token an event is a kick, the bell or the exit object, or a listener
  pub token-leaf : (g : Wiring) (k object token : ℕ)
      → (token < length (queues_of g k) → P (after_kick h (slice_index (queues_of g k) token) object))
      → (length (queues_of g k) ≤ token → token ≡ g.queues → P (after_bell h (opened_at g k).bell (opened_at g k).exit))
      → (length (queues_of g k) ≤ token → (token ≡ g.queues → ⊥) → P (after_listener h (opened_at g k).list object token))
      → P (after_event g k h object token)
  token-leaf g k object token kick bell listener =
      cond_both {A = Local V} (nat_lt token (length (queues_of g k))) (after_kick h (slice_index (queues_of g k) token) object) (cond (token == g.queues) (after_bell h (opened_at g k).bell (opened_at g k).exit) (after_listener h (opened_at g k).list object token)) P
      (λ below. kick (ltb-true token (length (queues_of g k)) below))
      (λ past. cond_both {A = Local V} (token == g.queues) (after_bell h (opened_at g k).bell (opened_at g k).exit) (after_listener h (opened_at g k).list object token) P
      (λ same. bell (ltb-false token (length (queues_of g k)) past) (eqb-true token g.queues same))
      (λ other. listener (ltb-false token (length (queues_of g k)) past) (eqb-false token g.queues other)))

  took-leaf : (q : ℕ) (rest : List ℕ)
      → ((c : Chain) → looked h q ≡ took.Entry c → P (after_took h q rest (took.Entry c)))
      → (looked h q ≡ took.None → P (after_took h q rest took.None))
      → ((d : Damage) → looked h q ≡ took.Damaged d → P (after_took h q rest (took.Damaged d)))
      → (t : Took) → looked h q ≡ t → P (after_took h q rest t)
  took-leaf q rest entry none damaged (took.Entry c) is = entry c is
  took-leaf q rest entry none damaged took.None is = none is
  took-leaf q rest entry none damaged (took.Damaged d) is = damaged d is

  -- a Take finds an entry, nothing, or damage
  pub take-leaf : (q : ℕ) (rest : List ℕ)
      → ((c : Chain) → looked h q ≡ took.Entry c → P (after_took h q rest (took.Entry c)))
      → (looked h q ≡ took.None → P (after_took h q rest took.None))
      → ((d : Damage) → looked h q ≡ took.Damaged d → P (after_took h q rest (took.Damaged d)))
      → P (after_take h (q ∷ rest))
  take-leaf q rest entry none damaged = took-leaf q rest entry none damaged (looked h q) refl

-- a Take that finds nothing leaves what is held, but for avail_event
pub none-leaf : {V : Type 0} (h : Shared V) (Q : Shared V → Type 0) (q : ℕ)
    → (may_take (ring_at h q) ≡ true → Q (published h (ring_at h q).queue))
    → (may_take (ring_at h q) ≡ false → Q h)
    → Q (after_none h q)
none-leaf {V} h Q q tells stays = cond_both {A = Shared V} (may_take (ring_at h q)) (published h (ring_at h q).queue) h Q tells stays

-- an Event leaves what is held, or reads one counter
pub event-shared : {V : Type 0} (g : Wiring) (k : ℕ) (h : Shared V) (Q : Shared V → Type 0) (object token : ℕ) → Q h → ((o : ℕ) → Q (counter_read h o)) → Q (after_event g k h object token).shared
event-shared {V} g k h Q object token stays reads =
    let P : Local V → Type 0 = λ l. Q l.shared in
    token-leaf h P g k object token
    (λ below. kick-leaf h P (slice_index (queues_of g k) token) object (λ own. reads object) stays)
    (λ past same. bell-leaf h P (opened_at g k).bell (opened_at g k).exit (reads (opened_at g k).bell) (λ zero. stays))
    (λ past other. listener-leaf h P (opened_at g k).list object token (λ own. reads object) stays)

-- the phase after an Event: what it may be
pub event-phase : {V : Type 0} (g : Wiring) (k : ℕ) (h : Shared V) (Q : Phase → Type 0) (object token : ℕ) → Q Idle → (token < length (queues_of g k) → Q (Serving (slice_index (queues_of g k) token ∷ []))) → Q Sweep → Q (Stopped Exit) → Q (Heard token) → Q (after_event g k h object token).phase
event-phase {V} g k h Q object token idle serves sweeps ends hears =
    let P : Local V → Type 0 = λ l. Q l.phase in
    let queue = slice_index (queues_of g k) token in
    token-leaf h P g k object token
    (λ below. kick-leaf h P queue object (λ own. cond_both (is_on (ring_at h queue)) (Serving (queue ∷ [])) Idle Q (λ on. serves below) (λ off. idle)) idle)
    (λ past same. bell-leaf h P (opened_at g k).bell (opened_at g k).exit sweeps (λ zero. cond_both (is_some (opened_at g k).exit) (Stopped Exit) Idle Q (λ some. ends) (λ none. idle)))
    (λ past other. listener-leaf h P (opened_at g k).list object token (λ own. hears) idle)

-- a Put is done, or refused
pub said-cases : (said : Result Bool PutFault) (P : Result Bool PutFault → Type 0)
    → ((wanted : Bool) → said ≡ Ok wanted → P (Ok wanted)) → ((fault : PutFault) → said ≡ Err fault → P (Err fault)) → P said
said-cases (Ok wanted) P done refused = done wanted refl
said-cases (Err fault) P done refused = refused fault refl
