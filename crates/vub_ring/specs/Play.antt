-- What the calls that play a step on lent parts say and leave, part by part: the ring, the guest's memory, the host's
-- table, a pending set.
use Rattle.std.specs.Prelude.{◌≡◌, ◌⊎◌, ℕ, Bool, true, false, if◌then◌else◌, List, [], sum_by, Option, Some, None}
use Rattle.std.specs.Prelude.{Result, Ok, Err}
use Rattle.vub_base.specs.Told.{Told}
use Rattle.vub_base.specs.Causes.{Rose}
use Rattle.vub_mem.specs.Memory.{Guest}
use Rattle.vub_mem.specs.Marks.{Mark}
use Rattle.vub_mem.specs.declared.region.Region.{Region}
use Rattle.vub_event.specs.HostTable.{HostTable}
use Rattle.vub_queue.specs.Function.{took_of}
use Rattle.vub_queue.specs.Take.{guest_taken, marks_taken}
use Rattle.vub_queue.specs.Put.{put_answer, put_guest, put_marks, ring_used}
use Rattle.vub_queue.specs.Notification.{wants_notification}
use Rattle.vub_queue.specs.declared.chain.Chain.{Chain}
use Rattle.vub_queue.specs.declared.took.Took.{Took}
use Rattle.vub_queue.specs.declared.took.Took.TheVariants as took
use Rattle.vub_queue.specs.declared.putting.PutFault.{PutFault}
use Rattle.vub_queue.specs.declared.putting.PutFault.TheVariants as put_fault
use Rattle.vub_model.specs.declared.ring_op.RingOp.TheVariants as op
use Rattle.vub_model.specs.RingRecord.{Vring, ring_after, is_on, has_addresses, is_in_flight}
use Rattle.vub_model.specs.Control.{used_index_covers, next_used_at}
use Rattle.vub_model.specs.EntryNumber.{next_number}
use Rattle.vub_model.specs.Shared.{with_number, without_number}
use Rattle.vub_model.specs.Work.{may_take, is_object}
use Rattle.vub_ring.specs.Events.{table_raised, table_read}
use Rattle.vub_ring.specs.declared.ops.TableRing.{TableRing}
use Rattle.vub_ring.specs.declared.ops.TableRing.TheVariants as table_ring
use Rattle.vub_ring.specs.declared.ops.TableRingSaid.{TableRingSaid}
use Rattle.vub_ring.specs.declared.ops.TableRingSaid.TheVariants as table_said
use Rattle.vub_ring.specs.declared.ops.KickSaid.{KickSaid}
use Rattle.vub_ring.specs.declared.ops.KickSaid.TheVariants.{Stale, Serve, Quiet}
use Rattle.vub_ring.specs.declared.ops.PutSaid.{PutSaid}
use Rattle.vub_ring.specs.declared.ops.PutSaid.TheVariants as put_said
use Rattle.vub_ring.specs.declared.ops.PendOp.{PendOp}
use Rattle.vub_ring.specs.declared.ops.PendOp.TheVariants as pend
use Rattle.vub_ring.specs.declared.ops.PendSaid.{PendSaid}
use Rattle.vub_ring.specs.declared.ops.PendSaid.TheVariants as pend_said
use Rattle.vub_ring.specs.declared.ops.PartsError.{PartsError}

-- The host's table, where it is told: a call that was made leaves what the relation says, and one that was not leaves
-- it as it was.
abbrev pub OnTable : {S : Type 0} → Result S PartsError → Option HostTable → Option HostTable
    → (S → HostTable → HostTable → Type 0) → Type 0
OnTable (Ok s) old new R = Told old new (R s)
OnTable (Err e) old new R = Told old new (λ a b. b ≡ a)

-- Take

-- what a live ring gives, and nothing from any other
unfoldable pub found : Guest → Vring → Took
found g r = if may_take r then took_of g r.queue else took.None

-- the memory where nothing was found: a live ring publishes the number of the next entry, if notifications go by index
unfoldable pub guest_none : Guest → Vring → Guest
guest_none g r = if may_take r then guest_taken g r.queue took.None else g

abbrev pub guest_found : Guest → Vring → Took → Guest
guest_found g r (took.Entry c) = g
guest_found g r took.None = guest_none g r
guest_found g r (took.Damaged d) = g

-- The pages that a take marks: those of the word in which a live ring with notifications by index publishes the number
-- of the next entry, where nothing was found.
abbrev pub marks_found : List Region → Vring → Took → List Mark
marks_found rs r (took.Entry c) = []
marks_found rs r took.None = if may_take r then marks_taken rs r.queue took.None else []
marks_found rs r (took.Damaged d) = []

abbrev pub table_marks : List Region → Vring → TableRingSaid → List Mark
table_marks rs r table_said.Nothing = marks_found rs r took.None
table_marks rs r said = []

abbrev pub TakePlays : TableRingSaid → Vring → Guest → Vring → Guest → Type 0
TakePlays (table_said.Taken epoch number c) r g ring guest =
    (found g r ≡ took.Entry c) × (epoch ≡ r.epoch) × (number ≡ next_number r) × (ring ≡ ring_after r op.Taken)
    × (guest ≡ g)
TakePlays table_said.Nothing r g ring guest = (found g r ≡ took.None) × (ring ≡ r) × (guest ≡ guest_none g r)
TakePlays (table_said.Damaged d) r g ring guest = (found g r ≡ took.Damaged d) × (ring ≡ r) × (guest ≡ g)
TakePlays said r g ring guest = ⊥

-- Info

-- an entry in flight lets it wait; else it says whether the used index can be read
abbrev pub info_said : Vring → Guest → ℕ → TableRingSaid
info_said r g used =
    if is_in_flight r.flight then table_said.Waits
    else (if used_index_covers g used then table_said.Done else table_said.Outside)

abbrev pub info_after : Vring → Guest → ℕ → ℕ → ℕ → Vring
info_after r g desc avail used = ring_after r (op.SetInfo desc avail used (next_used_at g used))

abbrev pub TablePlays : TableRing → TableRingSaid → Vring → Guest → Vring → Guest → Type 0
TablePlays table_ring.Take s r g ring guest = TakePlays s r g ring guest
TablePlays (table_ring.Info desc avail used) s r g ring guest =
    (s ≡ info_said r g used) × (ring ≡ info_after r g desc avail used) × (guest ≡ g)

-- told or not, an entry that is taken has the room of its segments
abbrev pub HasRoom : TableRingSaid → Type 0
HasRoom (table_said.Taken epoch number c) = c.room ≡ sum_by (λ s. s.len) c.segments
HasRoom s = Unit {0}

-- Kick

abbrev pub kick_said : Vring → ℕ → KickSaid
kick_said r object = if is_object r.kick object then (if is_on r then Serve else Quiet) else Stale

abbrev pub KickTable : ℕ → KickSaid → HostTable → HostTable → Type 0
KickTable object Stale old new = new ≡ old
KickTable object s old new = new ≡ table_read old object

-- Put

-- whether the used entry is told of, or why the use is refused
unfoldable pub put_found : Guest → Vring → Chain → List ℕ → Result Bool PutFault
put_found g r c reply =
    if has_addresses r
    then put_answer g.regions r.queue c reply (wants_notification (put_guest g r.queue c reply) (ring_used r.queue))
    else Err put_fault.RingOutside

abbrev pub PutPlays : Chain → List ℕ → PutSaid → Vring → Guest → Vring → Guest → Type 0
PutPlays c reply put_said.Done r g ring guest =
    (wanted : Bool) × (put_found g r c reply ≡ Ok wanted) × (ring ≡ ring_after r op.Put)
    × (guest ≡ put_guest g r.queue c reply)
PutPlays c reply (put_said.Held fault) r g ring guest =
    (put_found g r c reply ≡ Err fault) × (ring ≡ ring_after r op.Hold) × (guest ≡ g)

-- the pages that a use marks: those of the reply and of the used ring; a use that is held marks none
abbrev pub use_marks : List Region → Vring → Chain → List ℕ → PutSaid → List Mark
use_marks rs r c reply put_said.Done = put_marks rs r.queue c reply
use_marks rs r c reply (put_said.Held fault) = []

-- the table after the call is signalled, if there is one
abbrev pub table_called : Option ℕ → HostTable → HostTable
table_called None table = table
table_called (Some object) table = table_raised table object

abbrev pub table_wanted : Option ℕ → Bool → HostTable → HostTable
table_wanted call false table = table
table_wanted call true table = table_called call table

-- the same, or nothing where the host failed at the signal, which is passed over
abbrev pub CallsIf : ℕ → ℕ → Option ℕ → Bool → HostTable → HostTable → Type 0
CallsIf before now call wanted old new = (new ≡ table_wanted call wanted old)
    ⊎ (Rose before now × (wanted ≡ true) × (new ≡ old))

abbrev pub table_put : Option ℕ → Result Bool PutFault → HostTable → HostTable
table_put call (Ok wanted) table = table_wanted call wanted table
table_put call (Err fault) table = table

abbrev pub PutTable : ℕ → ℕ → Option ℕ → Result Bool PutFault → HostTable → HostTable → Type 0
PutTable before now call (Ok wanted) old new = CallsIf before now call wanted old new
PutTable before now call (Err fault) old new = new ≡ old

-- Pend

-- an Insert alone may want memory
abbrev pub inserts : PendOp → Bool
inserts (pend.Insert n) = true
inserts o = false

abbrev pub PendPlays : PendOp → PendSaid → List ℕ → List ℕ → Type 0
PendPlays (pend.Insert n) pend_said.Done old new = new ≡ with_number old n
PendPlays (pend.Remove n) pend_said.Done old new = new ≡ without_number old n
PendPlays pend.TakeAll (pend_said.All numbers) old new = (numbers ≡ old) × (new ≡ [])
PendPlays o s old new = ⊥
