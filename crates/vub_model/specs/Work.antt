-- A worker's steps: which play it may make in a phase, and what the step makes of what is held and of the phase.
use Rattle.std.specs.Prelude.{◌≡◌, ℕ, Bool, true, false, ◌&&◌, ◌==◌, not, nat_lt, if◌then◌else◌, List, [], ◌∷◌, length}
use Rattle.std.specs.Prelude.{slice_index, Option, Some, None, is_some, map, filter, Result, Ok, Err}
use Rattle.vub_mem.specs.Memory.{Guest}
use Rattle.vub_queue.specs.Ring.{Ring}
use Rattle.vub_queue.specs.declared.chain.Chain.{Chain}
use Rattle.vub_queue.specs.declared.took.Took.{Took}
use Rattle.vub_queue.specs.declared.took.Took.TheVariants as took
use Rattle.vub_queue.specs.declared.putting.PutFault.{PutFault}
use Rattle.vub_queue.specs.declared.putting.PutFault.TheVariants as put_fault
use Rattle.vub_queue.specs.Function.{took_of}
use Rattle.vub_queue.specs.Take.{guest_taken, marks_taken}
use Rattle.vub_queue.specs.Put.{put_answer, put_guest, put_marks, ring_used}
use Rattle.vub_queue.specs.Notification.{wants_notification}
use Rattle.vub_event.specs.declared.member.Member.{Member}
use Rattle.vub_event.specs.HostTable.{members_at}
use Rattle.vub_event.specs.InterestList.{member_of}
use Rattle.vub_model.specs.declared.cause.Why.{Why}
use Rattle.vub_model.specs.declared.cause.Why.TheVariants as why
use Rattle.vub_model.specs.declared.cause.VringEpollError.TheVariants.{HandleEventBackendHandling}
use Rattle.vub_model.specs.declared.cause.StopCause.TheVariants.{Exit, Fault}
use Rattle.vub_proto.specs.declared.device_op.DeviceOp.TheVariants as device
use Rattle.vub_proto.specs.declared.device_said.DeviceSaid.{DeviceSaid}
use Rattle.vub_proto.specs.declared.device_said.DeviceSaid.TheVariants as outcome
use Rattle.vub_model.specs.declared.entry.Entry.{Entry}
use Rattle.vub_model.specs.declared.play.Play.{Play}
use Rattle.vub_model.specs.declared.play.Play.TheVariants as play
use Rattle.vub_model.specs.declared.phase.Phase.{Phase}
use Rattle.vub_model.specs.declared.phase.Phase.TheVariants.{Idle, Polled, Sweep, Heard, Serving, Taken, Served}
use Rattle.vub_model.specs.declared.phase.Phase.TheVariants.{Stopped}
use Rattle.vub_model.specs.declared.ring_op.RingOp.TheVariants as op
use Rattle.vub_model.specs.RingRecord.{Vring, is_on, has_addresses, is_in_flight, limit, ring_after}
use Rattle.vub_model.specs.EntryNumber.{next_number}
use Rattle.vub_model.specs.Logs.{with_marks}
use Rattle.vub_model.specs.Shared.{Shared, ring_at, with_ring, count_at, counter_read, raised_or_none, is_ready}
use Rattle.vub_model.specs.Shared.{token_of, pending_at, swept}
use Rattle.vub_model.specs.Wiring.{Wiring, opened_at, queues_of}
use Rattle.vub_model.specs.Service.{Meaning}
use Rattle.vub_model.specs.Control.{IsOutcome}

-- what is held, and one worker's phase
pub record Local (V : Type 0) : Type 0 where
  pub shared : Shared V
  pub phase : Phase

-- the worker serves these queues, or is idle where there is none
abbrev pub serving : List ℕ → Phase
serving [] = Idle
serving (q ∷ qs) = Serving (q ∷ qs)

abbrev pub stopped : Why → Phase
stopped w = Stopped (Fault (HandleEventBackendHandling w))

-- Event

abbrev pub is_object : Option ℕ → ℕ → Bool
is_object None object = false
is_object (Some other) object = other == object

-- a kick is read to zero, and its queue served where it is ready and enabled; another event is stale
abbrev pub after_kick : {V : Type 0} → Shared V → ℕ → ℕ → Local V
after_kick h queue object =
    if is_object (ring_at h queue).kick object
    then record {
      shared = counter_read h object;
      phase = if is_on (ring_at h queue) then Serving (queue ∷ []) else Idle;
    }
    else record { shared = h; phase = Idle }

-- a bell above zero is read to zero, and the pending numbers are due; at zero a worker with an exit object stops
abbrev pub after_bell : {V : Type 0} → Shared V → ℕ → Option ℕ → Local V
after_bell h bell exit =
    if nat_lt 0 (count_at h.table bell)
    then record { shared = counter_read h bell; phase = Sweep }
    else record { shared = h; phase = if is_some exit then Stopped Exit else Idle }

abbrev pub has_token : Option Member → ℕ → Bool
has_token None token = false
has_token (Some m) token = m.token == token

-- a listener is read to zero and heard; another event is stale
abbrev pub after_listener : {V : Type 0} → Shared V → ℕ → ℕ → ℕ → Local V
after_listener h list object token =
    if has_token (member_of (members_at h.table list) object) token
    then record { shared = counter_read h object; phase = Heard token }
    else record { shared = h; phase = Idle }

-- by the token: below the length of the worker's list a kick, the number of queues for bell and exit object, above it a
-- listener
abbrev pub after_event : {V : Type 0} → Wiring → ℕ → Shared V → ℕ → ℕ → Local V
after_event g worker h object token =
    if nat_lt token (length (queues_of g worker))
    then after_kick h (slice_index (queues_of g worker) token) object
    else if token == g.queues
    then after_bell h (opened_at g worker).bell (opened_at g worker).exit
    else after_listener h (opened_at g worker).list object token

-- Hear

-- the device has handled the event, or refused it
abbrev pub after_heard : DeviceSaid → Phase
after_heard (outcome.Refused n) = stopped (why.Device n)
after_heard said = Idle

-- Sweep

-- the queues with these event numbers, in order
abbrev pub queues_numbered : List ℕ → List ℕ → List ℕ
queues_numbered queues numbers = map (λ n. slice_index queues n) (filter (λ n. nat_lt n (length queues)) numbers)

abbrev pub after_sweep : {V : Type 0} → Wiring → ℕ → Shared V → Local V
after_sweep g worker h =
    record { shared = swept h worker; phase = serving (queues_numbered (queues_of g worker) (pending_at h worker)) }

-- Take

-- an entry may be taken: the ring is ready and enabled, has its addresses, and no entry is in flight
abbrev pub may_take : Vring → Bool
may_take r = is_on r && has_addresses r && not (is_in_flight r.flight) && nat_lt r.taken limit

-- what the ring gives
unfoldable pub looked : {V : Type 0} → Shared V → ℕ → Took
looked h queue = if may_take (ring_at h queue) then took_of h.guest (ring_at h queue).queue else took.None

abbrev pub entry_of : ℕ → Vring → Chain → Entry
entry_of queue r c = record { queue = queue; epoch = r.epoch; number = next_number r; chain = c }

-- the number of the next entry is published, if notifications go by index, and its page is marked
abbrev pub published : {V : Type 0} → Shared V → Ring → Shared V
published h r =
    record h {
      guest = guest_taken h.guest r took.None;
      logs = with_marks h.logs (marks_taken h.guest.regions r took.None);
    }

-- so it is where a live ring has nothing left
abbrev pub after_none : {V : Type 0} → Shared V → ℕ → Shared V
after_none h queue = if may_take (ring_at h queue) then published h (ring_at h queue).queue else h

abbrev pub after_took : {V : Type 0} → Shared V → ℕ → List ℕ → Took → Local V
after_took h queue rest (took.Entry c) =
    record {
      shared = with_ring h queue (ring_after (ring_at h queue) op.Taken);
      phase = Taken (entry_of queue (ring_at h queue) c) (queue ∷ rest);
    }
after_took h queue rest took.None = record { shared = after_none h queue; phase = serving rest }
after_took h queue rest (took.Damaged d) = record { shared = h; phase = stopped (why.Damage d) }

abbrev pub after_take : {V : Type 0} → Shared V → List ℕ → Local V
after_take h [] = record { shared = h; phase = Idle }
after_take h (queue ∷ rest) = after_took h queue rest (looked h queue)

-- Serve

abbrev pub after_serve : {V : Type 0} → Meaning V → Shared V → Entry → List ℕ → Local V
after_serve m h e queues =
    record {
      shared = record h { service = m.after h.service e.chain.request e.chain.room };
      phase = Served e (m.reply_of h.service e.chain.request e.chain.room) queues;
    }

-- Put

-- whether the driver wants to be told of this use
abbrev pub is_wanted : Guest → Ring → Chain → List ℕ → Bool
is_wanted g r c reply = wants_notification (put_guest g r c reply) (ring_used r)

abbrev pub answer_put : Guest → Ring → Chain → List ℕ → Result Bool PutFault
answer_put g r c reply = put_answer g.regions r c reply (is_wanted g r c reply)

-- whether the used entry is told of, or why the use is refused
unfoldable pub put_said : {V : Type 0} → Shared V → Entry → List ℕ → Result Bool PutFault
put_said h e reply =
    if has_addresses (ring_at h e.queue)
    then answer_put h.guest (ring_at h e.queue).queue e.chain reply
    else Err put_fault.RingOutside

abbrev pub why_of : PutFault → Why
why_of put_fault.RoomOutside = why.RoomOutside
why_of put_fault.RingOutside = why.RingOutside

-- the reply stands in memory and its pages are marked, and the ring's used index is raised
abbrev pub used : {V : Type 0} → Shared V → Entry → List ℕ → Shared V
used h e reply =
    record h {
      guest = put_guest h.guest (ring_at h e.queue).queue e.chain reply;
      rings = (with_ring h e.queue (ring_after (ring_at h e.queue) op.Put)).rings;
      logs = with_marks h.logs (put_marks h.guest.regions (ring_at h e.queue).queue e.chain reply);
    }

-- the call is signalled, where the driver wants it
abbrev pub called : {V : Type 0} → Shared V → Option ℕ → Bool → Shared V
called h call false = h
called h call true = raised_or_none h call

abbrev pub after_said : {V : Type 0} → Shared V → Entry → List ℕ → List ℕ → Result Bool PutFault → Local V
after_said h e reply queues (Ok wanted) =
    record { shared = called (used h e reply) (ring_at h e.queue).call wanted; phase = serving queues }
after_said h e reply queues (Err fault) =
    record { shared = with_ring h e.queue (ring_after (ring_at h e.queue) op.Hold); phase = stopped (why_of fault) }

abbrev pub after_put : {V : Type 0} → Shared V → Entry → List ℕ → List ℕ → Local V
after_put h e reply queues = after_said h e reply queues (put_said h e reply)

-- May and After of a worker

abbrev pub MayWork : {V : Type 0} → Wiring → ℕ → Shared V → Phase → Play → Type 0
MayWork g worker h Idle (play.Poll object) = is_ready h.table (opened_at g worker).list object ≡ true
MayWork g worker h (Polled object token) play.Event = Unit {0}
MayWork g worker h Sweep play.Sweep = Unit {0}
MayWork g worker h (Heard token) (play.Hear said) = IsOutcome (device.HandleEvent token worker) said
MayWork g worker h (Serving queues) play.Take = Unit {0}
MayWork g worker h (Taken e queues) play.Serve = Unit {0}
MayWork g worker h (Served e reply queues) play.Put = Unit {0}
MayWork g worker h phase l = ⊥

abbrev pub after_work : {V : Type 0} → Meaning V → Wiring → ℕ → Shared V → Phase → Play → Local V
after_work m g worker h Idle (play.Poll object) =
    record { shared = h; phase = Polled object (token_of h.table (opened_at g worker).list object) }
after_work m g worker h (Polled object token) play.Event = after_event g worker h object token
after_work m g worker h Sweep play.Sweep = after_sweep g worker h
after_work m g worker h (Heard token) (play.Hear said) = record { shared = h; phase = after_heard said }
after_work m g worker h (Serving queues) play.Take = after_take h queues
after_work m g worker h (Taken e queues) play.Serve = after_serve m h e queues
after_work m g worker h (Served e reply queues) play.Put = after_put h e reply queues
after_work m g worker h phase l = record { shared = h; phase = phase }
