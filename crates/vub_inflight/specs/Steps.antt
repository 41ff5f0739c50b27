-- What each call does to a ring with its record and to guest memory, and the condition under which it is made.
use Rattle.std.specs.Prelude.{◌≡◌, ℕ, ◌+◌, ◌-◌, ◌<◌, ◌≤◌, ◌^◌, Bool, true, false, List, replicate, length, slice_set, Result, Ok, Err, sum_by}
use Rattle.vub_mem.specs.Memory.{Guest}
use Rattle.vub_queue.specs.Notification.{ring_told, wants_notification}
use Rattle.vub_queue.specs.Put.{put_answer, put_guest, ring_used}
use Rattle.vub_queue.specs.Ring.{Ring}
use Rattle.vub_queue.specs.Take.{Taken, guest_taken, ring_taken}
use Rattle.vub_queue.specs.declared.chain.Chain.{Chain}
use Rattle.vub_queue.specs.declared.putting.PutFault.{PutFault}
use Rattle.vub_queue.specs.declared.took.Took.{Took}
use Rattle.vub_queue.specs.declared.took.Took.TheVariants as took
use Rattle.vub_inflight.specs.State.{State, idle, in_flight}
use Rattle.vub_inflight.specs.declared.next_entry.NextEntry.{NextEntry}
use Rattle.vub_inflight.specs.declared.next_entry.NextEntry.TheVariants as entry
use Rattle.vub_inflight.specs.declared.stage.Stage.{Stage}
use Rattle.vub_inflight.specs.declared.stage.Stage.TheVariants.{Settled, Marked, Published, Cleared}

-- a ring with nothing open
abbrev pub new_state : Ring → State
new_state q =
    record { ring = q; last = 0; used = q.next_used; slots = replicate q.size idle; next = 0; stage = Settled }

-- Taking.

-- an entry may be taken: no head was cleared that is not settled, and a counter is left
pub record MayTake (s : State) : Type 0 where
  pub settled : s.stage ≡ Cleared → ⊥
  pub left : s.next < 2 ^ 64 - 1

-- the state after an entry was taken: its head is in flight, with the next counter
abbrev pub state_took : State → Chain → State
state_took s c =
    record s {
      ring = ring_taken s.ring (took.Entry c);
      slots = slice_set s.slots c.head (record { in_flight = true; counter = s.next });
      next = s.next + 1;
    }

-- A step of taking with this answer: that of a take, or Doubled where the head of the next entry is in flight.
abbrev pub Takes : State → Guest → NextEntry → State → Guest → Type 0
Takes s g (entry.Entry c) t h =
    Taken g s.ring (took.Entry c) × (in_flight s c.head ≡ false) × (t ≡ state_took s c) × (h ≡ g)
Takes s g entry.None t h = Taken g s.ring took.None × (t ≡ s) × (h ≡ guest_taken g s.ring took.None)
Takes s g (entry.Damaged d) t h = Taken g s.ring (took.Damaged d) × (t ≡ s) × (h ≡ g)
Takes s g (entry.Doubled n) t h =
    ((c : Chain) × Taken g s.ring (took.Entry c) × (c.head ≡ n)) × (in_flight s n ≡ true) × (t ≡ s) × (h ≡ g)

-- the head of an entry is below this size
abbrev pub HeadIsBelow : ℕ → Took → Type 0
HeadIsBelow n (took.Entry c) = c.head < n
HeadIsBelow n took.None = Unit {0}
HeadIsBelow n (took.Damaged d) = Unit {0}

-- the room of an entry is what its segments hold, as publishing asks
abbrev pub EntryHasRoom : NextEntry → Type 0
EntryHasRoom (entry.Entry c) = c.room ≡ sum_by (λ s. s.len) c.segments
EntryHasRoom entry.None = Unit {0}
EntryHasRoom (entry.Damaged d) = Unit {0}
EntryHasRoom (entry.Doubled h) = Unit {0}

-- Using: marking, publishing, clearing, settling.

-- No use is half done. It is from a publishing that was not refused to the settling after it.
abbrev pub IsWhole : Stage → Type 0
IsWhole Settled = Unit {0}
IsWhole (Marked h) = Unit {0}
IsWhole (Published h) = ⊥
IsWhole Cleared = ⊥

-- a head may be marked: it is in flight, and no use is half done
pub record MayMark (s : State) (h : ℕ) : Type 0 where
  pub whole : IsWhole s.stage
  pub flies : in_flight s h ≡ true

abbrev pub state_marked : State → ℕ → State
state_marked s h = record s { last = h; stage = Marked h }

-- what a put asks of its entry and its reply
pub record MayPut (c : Chain) (reply : List ℕ) : Type 0 where
  pub fits : length reply ≤ c.room
  pub room : c.room ≡ sum_by (λ s. s.len) c.segments

-- a reply may be published: the head of its entry was marked last
pub record MayPublish (s : State) (c : Chain) (reply : List ℕ) : Type 0 where
  pub marked : s.stage ≡ Marked c.head
  pub put : MayPut c reply

abbrev pub state_published : State → ℕ → State
state_published s h = record s { ring = ring_told (ring_used s.ring); stage = Published h }

-- what publishing leaves: a put was made, or nothing changed
abbrev pub PublishEnds : State → Guest → Chain → List ℕ → Result Bool PutFault → State → Guest → Type 0
PublishEnds s g c reply (Ok wanted) t h = (h ≡ put_guest g s.ring c reply) × (t ≡ state_published s c.head)
PublishEnds s g c reply (Err fault) t h = (t ≡ s) × (h ≡ g)

-- a step of publishing with this answer, which is that of the put
pub record Publishes (s : State) (g : Guest) (c : Chain) (reply : List ℕ) (a : Result Bool PutFault) (t : State)
    (h : Guest) : Type 0 where
  pub answer : a ≡ put_answer g.regions s.ring c reply (wants_notification h (ring_used s.ring))
  pub ends : PublishEnds s g c reply a t h

abbrev pub state_cleared : State → ℕ → State
state_cleared s h = record s { slots = slice_set s.slots h idle; stage = Cleared }

abbrev pub state_settled : State → State
state_settled s = record s { used = s.ring.next_used; stage = Settled }

-- what follows publishing: clearing and settling, or nothing where it was refused
abbrev pub FinishEnds : Result Bool PutFault → State → State → Type 0
FinishEnds (Ok wanted) s t = t ≡ state_settled (state_cleared s s.last)
FinishEnds (Err fault) s t = t ≡ s

-- the four calls of a use in order, of which a refused publishing is the last
abbrev pub Finishes : State → Guest → Chain → List ℕ → Result Bool PutFault → State → Guest → Type 0
Finishes s g c reply a t h = (u : State) × Publishes (state_marked s c.head) g c reply a u h × FinishEnds a u t
