-- What each call of `Parts` says and leaves, as a relation of what is held before and after. Each is one row of the
-- machine's steps, or a small step of one of its parts.
use Rattle.std.specs.Prelude.{◌≡◌, ◌⊎◌, ℕ, Bool, true, false, List, map, Option, Some, None, Result, Ok, Err}
use Rattle.vub_base.specs.Causes.{Rose}
use Rattle.vub_base.specs.Told.{Told}
use Rattle.vub_log.specs.Plain.{Plain}
use Rattle.vub_mem.specs.Memory.{Guest, Memory}
use Rattle.vub_mem.specs.Track.{log_fault, with_log}
use Rattle.vub_mem.specs.declared.errors.LogError.TheVariants as log_error
use Rattle.vub_mem.specs.declared.errors.MemError.TheVariants as mem_error
use Rattle.vub_event.specs.HostTable.{HostTable}
use Rattle.vub_event.specs.HostCalls.{CreateEventCall, CreateListCall, SignalCall, ConsumeCall, AddCall, DeleteCall}
use Rattle.vub_event.specs.HostCalls.{ListenCall, UnlistenCall, ConsumeAsCall, FirstReadyCall, ClaimCall, release_after}
use Rattle.vub_event.specs.HostCalls.{member_for}
use Rattle.vub_event.specs.declared.error.HostError.TheVariants as host_error
use Rattle.vub_queue.specs.declared.took.Took.TheVariants as took
use Rattle.vub_model.specs.declared.entry.Entry.{Entry}
use Rattle.vub_model.specs.declared.ring_op.RingOp.{RingOp}
use Rattle.vub_model.specs.declared.ring_op.RingOp.TheVariants as op
use Rattle.vub_model.specs.declared.ring_op.RingSaid.{RingSaid}
use Rattle.vub_model.specs.RingRecord.{ring_said, ring_after, is_on}
use Rattle.vub_model.specs.EntryNumber.{next_number}
use Rattle.vub_model.specs.declared.small.TableOp.{TableOp}
use Rattle.vub_model.specs.Control.{table_refusal}
use Rattle.vub_model.specs.Plans.{regions_after}
use Rattle.vub_model.specs.Shared.{Shared, ring_at, with_ring, counter_read, inserted, removed, swept, pending_at}
use Rattle.vub_proto.specs.declared.device_op.DeviceOp.{DeviceOp}
use Rattle.vub_proto.specs.declared.device_op.DeviceOp.TheVariants as device
use Rattle.vub_proto.specs.declared.device_said.DeviceSaid.{DeviceSaid}
use Rattle.vub_proto.specs.declared.device_said.DeviceSaid.TheVariants as outcome
use Rattle.vub_model.specs.DeviceCalls.{Telling}
use Rattle.vub_model.specs.Service.{Meaning}
use Rattle.vub_model.specs.Work.{is_object, looked, after_none, put_said, used, called}
use Rattle.vub_ring.specs.Play.{info_said, info_after}
use Rattle.vub_ring.specs.declared.ops.TableRing.{TableRing}
use Rattle.vub_ring.specs.declared.ops.TableRing.TheVariants as table_ring
use Rattle.vub_ring.specs.declared.ops.TableRingSaid.{TableRingSaid}
use Rattle.vub_ring.specs.declared.ops.TableRingSaid.TheVariants as table_said
use Rattle.vub_ring.specs.declared.ops.KickSaid.{KickSaid}
use Rattle.vub_ring.specs.declared.ops.KickSaid.TheVariants.{Stale, Serve, Quiet}
use Rattle.vub_ring.specs.declared.ops.PutSaid.{PutSaid}
use Rattle.vub_ring.specs.declared.ops.PutSaid.TheVariants as put_answer
use Rattle.vub_ring.specs.declared.ops.PendOp.{PendOp}
use Rattle.vub_ring.specs.declared.ops.PendOp.TheVariants as pend
use Rattle.vub_ring.specs.declared.ops.PendSaid.{PendSaid}
use Rattle.vub_ring.specs.declared.ops.PendSaid.TheVariants as pend_said
use Rattle.vub_vring.specs.declared.ops.HostOp.{HostOp}
use Rattle.vub_vring.specs.declared.ops.HostOp.TheVariants as host
use Rattle.vub_vring.specs.declared.ops.HostSaid.{HostSaid}
use Rattle.vub_vring.specs.declared.ops.HostSaid.TheVariants as said
use Rattle.vub_vring.specs.declared.ops.LogSaid.{LogSaid}
use Rattle.vub_vring.specs.declared.ops.LogSaid.TheVariants as log_said
use Rattle.vub_vring.specs.declared.ops.TableSaid.{TableSaid}
use Rattle.vub_vring.specs.declared.ops.TableSaid.TheVariants as change
use Rattle.vub_ring.specs.declared.ops.PartsError.{PartsError}

-- A call that was made says and leaves what the relation says, where what is held is told. One that was not made
-- changes nothing, told or not.
abbrev pub Called : {A S : Type 0} → Result S PartsError → Option A → Option A → (S → A → A → Type 0) → Type 0
Called (Ok s) old new R = Told old new (R s)
Called (Err e) old new R = new ≡ old

-- `ring`: the op is applied to the ring
abbrev pub RingCall : {V : Type 0} → ℕ → RingOp → RingSaid → Shared V → Shared V → Type 0
RingCall queue o s old new = (s ≡ ring_said (ring_at old queue) o)
    × (new ≡ with_ring old queue (ring_after (ring_at old queue) o))

-- `ring_table`, an Info: the ring gets these addresses, and the next used index that stands there
abbrev pub InfoCall : {V : Type 0} → ℕ → ℕ → ℕ → ℕ → TableRingSaid → Shared V → Shared V → Type 0
InfoCall queue desc avail used s old new =
    (s ≡ info_said (ring_at old queue) old.guest used)
    × (new ≡ with_ring old queue (info_after (ring_at old queue) old.guest desc avail used))

-- `ring_table`, a Take: what the ring gives
abbrev pub TakeCall : {V : Type 0} → ℕ → TableRingSaid → Shared V → Shared V → Type 0
TakeCall queue (table_said.Taken epoch number c) old new =
    (looked old queue ≡ took.Entry c) × (epoch ≡ (ring_at old queue).epoch)
    × (number ≡ next_number (ring_at old queue))
    × (new ≡ with_ring old queue (ring_after (ring_at old queue) op.Taken))
TakeCall queue table_said.Nothing old new = (looked old queue ≡ took.None) × (new ≡ after_none old queue)
TakeCall queue (table_said.Damaged d) old new = (looked old queue ≡ took.Damaged d) × (new ≡ old)
TakeCall queue s old new = ⊥

abbrev pub TableRingCall : {V : Type 0} → ℕ → TableRing → TableRingSaid → Shared V → Shared V → Type 0
TableRingCall queue table_ring.Take s old new = TakeCall queue s old new
TableRingCall queue (table_ring.Info desc avail used) s old new = InfoCall queue desc avail used s old new

-- `ring_host`: the counter of the ring's kick is read
abbrev pub KickCall : {V : Type 0} → ℕ → ℕ → KickSaid → Shared V → Shared V → Type 0
KickCall queue object Stale old new = (is_object (ring_at old queue).kick object ≡ false) × (new ≡ old)
KickCall queue object Serve old new =
    (is_object (ring_at old queue).kick object ≡ true) × (is_on (ring_at old queue) ≡ true)
    × (new ≡ counter_read old object)
KickCall queue object Quiet old new =
    (is_object (ring_at old queue).kick object ≡ true) × (is_on (ring_at old queue) ≡ false)
    × (new ≡ counter_read old object)

-- `put`: the entry is used with the reply, and the call is signalled where the driver wants it; or it is held
abbrev pub PutCall : {V : Type 0} → Entry → List ℕ → PutSaid → Shared V → Shared V → Type 0
PutCall e reply put_answer.Done old new =
    (wanted : Bool) × (put_said old e reply ≡ Ok wanted)
    × (new ≡ called (used old e reply) (ring_at old e.queue).call wanted)
PutCall e reply (put_answer.Held fault) old new =
    (put_said old e reply ≡ Err fault) × (new ≡ with_ring old e.queue (ring_after (ring_at old e.queue) op.Hold))

-- the same where the host failed at the signal of the call, which is passed over
abbrev pub PutUncalled : {V : Type 0} → Entry → List ℕ → PutSaid → Shared V → Shared V → Type 0
PutUncalled e reply put_answer.Done old new = (put_said old e reply ≡ Ok true) × (new ≡ used old e reply)
PutUncalled e reply (put_answer.Held fault) old new = ⊥

-- a use whose signal is passed over where the host fails
abbrev pub PutTried : {V : Type 0} → Type 0 → Entry → List ℕ → PutSaid → Shared V → Shared V → Type 0
PutTried Rise e reply s old new = PutCall e reply s old new ⊎ (Rise × PutUncalled e reply s old new)

-- `pend`: a change of a worker's pending set
abbrev pub PendCall : {V : Type 0} → ℕ → PendOp → PendSaid → Shared V → Shared V → Type 0
PendCall worker (pend.Insert n) pend_said.Done old new = new ≡ inserted old worker n
PendCall worker (pend.Remove n) pend_said.Done old new = new ≡ removed old worker n
PendCall worker pend.TakeAll (pend_said.All numbers) old new =
    (numbers ≡ pending_at old worker) × (new ≡ swept old worker)
PendCall worker o s old new = ⊥

-- `service`: the service is asked for the reply to the entry
abbrev pub ServiceCall : {V : Type 0} → Meaning V → Entry → List ℕ → Shared V → Shared V → Type 0
ServiceCall m e reply old new =
    (reply ≡ m.reply_of old.service e.chain.request e.chain.room)
    × (new ≡ record old { service = m.after old.service e.chain.request e.chain.room })

-- `host`: the call of this name on the host table
abbrev pub HostTableCall : HostOp → HostSaid → HostTable → HostTable → Type 0
HostTableCall (host.CreateEvent flags) (said.Number n) old new = CreateEventCall flags (Ok n) old new
HostTableCall (host.CreateEvent flags) (said.Refused e) old new = CreateEventCall flags (Err e) old new
HostTableCall host.CreateList (said.Number n) old new = CreateListCall (Ok n) old new
HostTableCall (host.Signal object value) said.Done old new = SignalCall {T = Unit {0}} object value (Ok tt) old new
HostTableCall (host.Signal object value) (said.Refused e) old new =
    SignalCall {T = Unit {0}} object value (Err e) old new
HostTableCall (host.Consume object) (said.Count n) old new = ConsumeCall object (Ok n) old new
HostTableCall (host.Consume object) (said.Refused e) old new = ConsumeCall object (Err e) old new
HostTableCall (host.Add list object set token) said.Done old new =
    AddCall {T = Unit {0}} list (member_for object set token) (Ok tt) old new
HostTableCall (host.Add list object set token) (said.Refused e) old new =
    AddCall {T = Unit {0}} list (member_for object set token) (Err e) old new
HostTableCall (host.Delete list object) said.Done old new = DeleteCall {T = Unit {0}} list object (Ok tt) old new
HostTableCall (host.Delete list object) (said.Refused e) old new = DeleteCall {T = Unit {0}} list object (Err e) old new
HostTableCall (host.Listen list object token) said.Done old new =
    ListenCall {T = Unit {0}} list object token (Ok tt) old new
HostTableCall (host.Listen list object token) (said.Refused e) old new =
    ListenCall {T = Unit {0}} list object token (Err e) old new
HostTableCall (host.Unlisten list object above) said.Done old new =
    UnlistenCall {T = Unit {0}} list object above (Ok tt) old new
HostTableCall (host.Unlisten list object above) (said.Refused e) old new =
    UnlistenCall {T = Unit {0}} list object above (Err e) old new
HostTableCall (host.ConsumeAs list object token) (said.Member b) old new =
    ConsumeAsCall list object token (Ok b) old new
HostTableCall (host.ConsumeAs list object token) (said.Refused e) old new =
    ConsumeAsCall list object token (Err e) old new
HostTableCall (host.Ready list) (said.Ready found) old new = FirstReadyCall list (Ok found) old new
HostTableCall (host.Ready list) (said.Refused e) old new = FirstReadyCall list (Err e) old new
HostTableCall (host.Claim object queue) said.Done old new = ClaimCall {T = Unit {0}} object queue (Ok tt) old new
HostTableCall (host.Claim object queue) (said.Refused e) old new = ClaimCall {T = Unit {0}} object queue (Err e) old new
HostTableCall (host.Release object) said.Done old new = new ≡ release_after old object
HostTableCall o s old new = ⊥

-- the calls of a host that may want memory: those that make an object or a list, and those that add a member
abbrev pub takes_memory : HostOp → Bool
takes_memory (host.CreateEvent flags) = true
takes_memory host.CreateList = true
takes_memory (host.Add list object set token) = true
takes_memory (host.Listen list object token) = true
takes_memory o = false

-- neither a fault of the host nor want of memory is said as a refusal
abbrev pub IsSaid : HostSaid → Type 0
IsSaid (said.Refused host_error.Failed) = ⊥
IsSaid (said.Refused host_error.OutOfMemory) = ⊥
IsSaid s = Unit {0}

abbrev pub HostCall : {V : Type 0} → HostOp → HostSaid → Shared V → Shared V → Type 0
HostCall o s old new = HostTableCall o s old.table new.table × (new ≡ record old { table = new.table })

-- guest memory and its logs, of what is held
abbrev pub memory_of : {V : Type 0} → Shared V → Memory Plain
memory_of h = record { guest = h.guest; logs = h.logs }

-- `table`: the table of guest memory is changed, and its regions are said; or memory refuses the change
abbrev pub ChangesTable : TableOp → TableSaid → Guest → Guest → Type 0
ChangesTable o (change.Regions regions) old new =
    (table_refusal old o ≡ None) × (regions ≡ regions_after old.regions o)
    × (new ≡ record old { regions = regions_after old.regions o })
ChangesTable o (change.Memory e) old new = (table_refusal old o ≡ Some e) × (new ≡ old)

abbrev pub TableCall : {V : Type 0} → TableOp → TableSaid → Shared V → Shared V → Type 0
TableCall o s old new = ChangesTable o s old.guest new.guest × (new ≡ record old { guest = new.guest })

-- the regions with this part of a log
abbrev pub tracked_guest : Guest → ℕ → ℕ → Guest
tracked_guest g object offset = record g { regions = map (λ r. with_log object offset r) g.regions }

-- `set_log`: each region gets this part of the log, or the first test that fails is said, and nothing changes
abbrev pub SetsLog : {L : Type 0} → (L → ℕ) → ℕ → ℕ → ℕ → Bool → LogSaid → Memory L → Memory L → Type 0
SetsLog len object offset size tracks log_said.Done old new =
    (log_fault len old.logs old.guest.regions object offset size tracks ≡ None)
    × (new ≡ record old { guest = tracked_guest old.guest object offset })
SetsLog len object offset size tracks (log_said.Log e) old new =
    (log_fault len old.logs old.guest.regions object offset size tracks ≡ Some e) × (new ≡ old)

-- the same of what is held
abbrev pub LogCall : {V : Type 0} → ℕ → ℕ → ℕ → Bool → LogSaid → Shared V → Shared V → Type 0
LogCall object offset size tracks s old new =
    SetsLog (λ log. log.len) object offset size tracks s (memory_of old) (memory_of new)
    × (new ≡ record old { guest = new.guest })

-- neither want of memory nor a spent generation is said as a refusal of a log
abbrev pub IsLogSaid : LogSaid → Type 0
IsLogSaid (log_said.Log log_error.OutOfMemory) = ⊥
IsLogSaid (log_said.Log log_error.GenerationsSpent) = ⊥
IsLogSaid s = Unit {0}

-- want of memory is not said as a refusal of guest memory
abbrev pub IsTableSaid : TableSaid → Type 0
IsTableSaid (change.Memory mem_error.OutOfMemory) = ⊥
IsTableSaid s = Unit {0}

-- `device`: the device says what it means to say at this call, and leaves the value that it means to leave
abbrev pub DeviceCall : {D : Type 0} → Telling D → DeviceOp → DeviceSaid → D → D → Type 0
DeviceCall t o s old new = (s ≡ t.said old o) × (new ≡ t.moved old o)

abbrev pub telling : {D : Type 0} → (D → DeviceOp → DeviceSaid) → (D → DeviceOp → D) → Telling D
telling said moved = record { said = said; moved = moved }

-- a refusal of the device is said only where its count rose
abbrev pub IsCounted : ℕ → ℕ → DeviceSaid → Type 0
IsCounted before now (outcome.Refused n) = Rose before now
IsCounted before now s = Unit {0}

-- the call of a device that may want memory
abbrev pub gives_content : DeviceOp → Bool
gives_content (device.GetConfig offset size) = true
gives_content o = false
