-- The plan of each control request: the small steps that it takes, what it is answered, and the session after it. It is
-- fixed where the request begins, and depends only on what control steps alone change.
use Rattle.std.specs.Prelude.{ℕ, zero, suc, ◌%◌, ◌^◌, Bool, true, false, ◌&&◌, ◌||◌, not, ◌==◌, nat_lt, nat_le}
use Rattle.std.specs.Prelude.{if◌then◌else◌, List, [], ◌∷◌, ◌++◌, length, map, filter, insert, Option, Some, None}
use Rattle.std.specs.Prelude.{is_some, Result, Ok, Err}
use Rattle.std.specs.Int.{is_power_of_two}
use Rattle.std.specs.Int.RustNames.{bit_or}
use Rattle.std.specs.Result.{is_ok}
use Rattle.vub_mem.specs.declared.errors.MemError.{MemError}
use Rattle.vub_mem.specs.declared.mapping.Mapping.{Mapping}
use Rattle.vub_mem.specs.declared.region.Region.{Region}
use Rattle.vub_mem.specs.Mappings.{gpa_of}
use Rattle.vub_mem.specs.Table as table
use Rattle.vub_queue.specs.Settings.{info_answer}
use Rattle.vub_proto.specs.declared.answer.Answer.{Answer}
use Rattle.vub_proto.specs.declared.answer.Answer.TheVariants as answer
use Rattle.vub_proto.specs.declared.answer.Cause.TheVariants as cause
use Rattle.vub_proto.specs.declared.answer.Denied.TheVariants as denied
use Rattle.vub_proto.specs.declared.answer.ListenerError.TheVariants as listener
use Rattle.vub_proto.specs.declared.answer.VhostUserError.{VhostUserError}
use Rattle.vub_proto.specs.declared.answer.VhostUserError.TheVariants as error
use Rattle.vub_proto.specs.declared.device_op.Backend.{Backend}
use Rattle.vub_proto.specs.declared.device_op.DeviceOp.{DeviceOp}
use Rattle.vub_proto.specs.declared.device_op.DeviceOp.TheVariants as device
use Rattle.vub_proto.specs.declared.request.Part.{Part}
use Rattle.vub_proto.specs.declared.request.Request.{Request}
use Rattle.vub_proto.specs.declared.request.Request.TheVariants as request
use Rattle.vub_model.specs.declared.ring_op.RingOp.TheVariants as op
use Rattle.vub_model.specs.declared.session.Session.{Session}
use Rattle.vub_model.specs.declared.small.Small.{Small}
use Rattle.vub_model.specs.declared.small.Small.TheVariants.{Claim, Release, Add, Delete, Listen, Unlisten, Bell}
use Rattle.vub_model.specs.declared.small.Small.TheVariants.{Remove, Insert, Set, Info, Table, Log, Device}
use Rattle.vub_model.specs.declared.small.Small.TheVariants.{Answer as Answering}
use Rattle.vub_model.specs.declared.small.TableOp.{TableOp}
use Rattle.vub_model.specs.declared.small.TableOp.TheVariants as table_op
use Rattle.vub_model.specs.declared.wiring.Known.{Known}
use Rattle.vub_model.specs.declared.wiring.Opened.{Opened}
use Rattle.vub_model.specs.declared.wiring.Place.{Place}
use Rattle.vub_model.specs.Frame.{Frame, known_at, is_there}
use Rattle.vub_model.specs.Wiring.{Wiring, opened_at, has_bit, place_of}

-- what an Answer says: an answer that is known before, or the number of a ring's next entry
pub data Reply : Type 0 where
  says : Answer → Reply
  next_of : ℕ → Reply

pub record Plan : Type 0 where
  pub steps : List Small
  pub reply : Reply
  -- the session after an answer that is no refusal
  pub session : Session

-- Plans without small steps, but for the Answer

abbrev pub answered : Answer → Session → Plan
answered a s = record { steps = Answering ∷ []; reply = says a; session = s }

abbrev pub refused : VhostUserError → Session → Plan
refused e s = answered (answer.Failed e) s

abbrev pub listener_refused : Session → Plan
listener_refused s = answered (answer.Listener listener.EINVAL) s

-- steps that end with their Answer, which says ok
abbrev pub done : List Small → Session → Plan
done steps s = record { steps = steps; reply = says answer.Ok; session = s }

-- one call of the device, and an answer
abbrev pub asks : DeviceOp → Session → Plan
asks call s = done (Device call ∷ Answering ∷ []) s

-- the test comes first
abbrev pub tested : Bool → VhostUserError → Session → Plan → Plan
tested holds e s plan = if holds then plan else refused e s

-- Blocks

abbrev pub when : Bool → List Small → List Small
when holds steps = if holds then steps else []

-- the kick of a queue that has a worker leaves pending set and list
abbrev pub off_steps : Option Place → Option ℕ → List Small
off_steps (Some p) (Some kick) = Remove p.worker p.number ∷ Delete p.worker kick ∷ []
off_steps (Some p) None = []
off_steps None kick = []

-- it joins both, and the bell is rung
abbrev pub on_steps : Wiring → Option Place → Option ℕ → List Small
on_steps g (Some p) (Some kick) =
    Add p.worker kick p.number ∷ Insert p.worker p.number ∷ Bell (opened_at g p.worker).bell ∷ []
on_steps g (Some p) None = []
on_steps g None kick = []

-- by whether the queue is ready and enabled
abbrev pub update_steps : Wiring → ℕ → Option ℕ → Bool → List Small
update_steps g queue kick on = if on then on_steps g (place_of g queue) kick else off_steps (place_of g queue) kick

abbrev pub claim_steps : ℕ → Option ℕ → List Small
claim_steps queue None = []
claim_steps queue (Some object) = Claim object queue ∷ []

abbrev pub release_steps : Option ℕ → List Small
release_steps None = []
release_steps (Some object) = Release object ∷ []

abbrev pub same_event : Option ℕ → Option ℕ → Bool
same_event None None = true
same_event (Some a) (Some b) = a == b
same_event None (Some b) = false
same_event (Some a) None = false

-- these steps for each queue, in order
abbrev pub each_queue : (ℕ → List Small) → ℕ → List Small
each_queue steps zero = []
each_queue steps (suc n) = each_queue steps n ++ steps n

-- Rings

abbrev pub kick_steps : Wiring → ℕ → Known → Option ℕ → List Small
kick_steps g queue k new =
    claim_steps queue new
    ++ (when (not (same_event k.kick new)) (off_steps (place_of g queue) k.kick)
    ++ (Set queue (op.SetKick new)
    ∷ (when (not (same_event k.kick new)) (release_steps k.kick)
    ++ (when (is_some new && not k.ready) (Set queue (op.SetReady true) ∷ [])
    ++ (update_steps g queue new ((k.ready || is_some new) && k.enabled)
    ++ Answering ∷ [])))))

-- a ring that is not ready and has a kick becomes ready
abbrev pub call_steps : Wiring → ℕ → Known → Option ℕ → List Small
call_steps g queue k new =
    Set queue (op.SetCall new)
    ∷ (when (is_some k.kick && not k.ready) (Set queue (op.SetReady true) ∷ update_steps g queue k.kick k.enabled)
    ++ Answering ∷ [])

abbrev pub enable_steps : Wiring → ℕ → Known → Bool → List Small
enable_steps g queue k enabled = Set queue (op.SetEnabled enabled) ∷ update_steps g queue k.kick (k.ready && enabled)

abbrev pub disable_steps : Wiring → ℕ → Known → List Small
disable_steps g queue k = Set queue (op.SetEnabled false) ∷ off_steps (place_of g queue) k.kick

abbrev pub stop_steps : Wiring → ℕ → Known → List Small
stop_steps g queue k =
    Set queue (op.SetReady false)
    ∷ (off_steps (place_of g queue) k.kick
    ++ Device (device.StopVring queue) ∷ Set queue (op.SetKick None) ∷ Set queue (op.SetCall None)
    ∷ (release_steps k.kick ++ Answering ∷ []))

-- a size is a power of two and not above the greatest
abbrev pub is_size : Wiring → ℕ → Bool
is_size g n = is_power_of_two n && nat_le n g.max

-- by the guest addresses of the three parts
abbrev pub info_plan : ℕ → Session → Result ℕ MemError → Result ℕ MemError → Result ℕ MemError → Plan
info_plan queue s (Ok desc) (Ok avail) (Ok used) =
    tested (is_ok (info_answer desc avail used)) error.InvalidParam s
    (done (Info queue desc avail used ∷ Answering ∷ []) s)
info_plan queue s (Err e) avail used = refused (error.ReqHandlerError (cause.Memory e)) s
info_plan queue s (Ok desc) (Err e) used = refused (error.ReqHandlerError (cause.Memory e)) s
info_plan queue s (Ok desc) (Ok avail) (Err e) = refused (error.ReqHandlerError (cause.Memory e)) s

abbrev pub is_empty : {X : Type 0} → List X → Bool
is_empty [] = true
is_empty (x ∷ xs) = false

abbrev pub addr_plan : ℕ → Session → ℕ → ℕ → ℕ → Plan
addr_plan queue s desc avail used =
    tested (not (is_empty s.mappings)) error.InvalidParam s
    (info_plan queue s (gpa_of s.mappings desc) (gpa_of s.mappings avail) (gpa_of s.mappings used))

-- Memory

abbrev pub region_for : Part → ℕ → Region
region_for p content = record { start = p.start; len = p.len; object = content; offset = p.offset; log = None }

abbrev pub mapping_for : Part → Mapping
mapping_for p = record { user = p.user; len = p.len; start = p.start }

-- the shorter of the two lists decides
abbrev pub regions_for : List Part → List ℕ → List Region
regions_for [] contents = []
regions_for (p ∷ parts) [] = []
regions_for (p ∷ parts) (content ∷ contents) = region_for p content ∷ regions_for parts contents

abbrev pub mappings_for : List Part → List ℕ → List Mapping
mappings_for [] contents = []
mappings_for (p ∷ parts) [] = []
mappings_for (p ∷ parts) (content ∷ contents) = mapping_for p ∷ mappings_for parts contents

-- the regions after an accepted change of the table
abbrev pub regions_after : List Region → TableOp → List Region
regions_after rs (table_op.Replace new) = map table.unlogged new
regions_after rs (table_op.Insert r) = insert rs (table.place_of rs r) (table.unlogged r)
regions_after rs (table_op.Remove start len) = table.without rs start len

abbrev pub table_plan : List Region → TableOp → Session → Plan
table_plan rs change s = done (Table change ∷ Device (device.UpdateMemory (regions_after rs change)) ∷ Answering ∷ []) s

-- a flag that is given asks for postcopy, which is not enabled
abbrev pub no_flag : Option Bool → Session → Plan → Plan
no_flag flag s plan = tested (not (is_some flag)) (error.InvalidOperation denied.PostcopyNotEnabled) s plan

-- Session

-- all of these bits are offered
abbrev pub are_offered : ℕ → ℕ → Bool
are_offered offered bits = bit_or offered bits == offered

abbrev pub features_steps : Wiring → Frame → ℕ → List Small
features_steps g f bits =
    when (not (has_bit bits 30)) (each_queue (λ q. enable_steps g q (known_at f q) true) g.queues)
    ++ (each_queue (λ q. Set q (op.SetEventIdx (has_bit bits 29)) ∷ []) g.queues
    ++ Device (device.SetEventIdx (has_bit bits 29)) ∷ Device (device.AckedFeatures bits) ∷ Answering ∷ [])

abbrev pub reset_steps : Wiring → Frame → List Small
reset_steps g f =
    each_queue (λ q. disable_steps g q (known_at f q)) g.queues ++ Device device.ResetDevice ∷ Answering ∷ []

-- Listeners

-- a listener asks for IN alone, under a token above the number of queues and below 2^16
abbrev pub is_listener : Wiring → Frame → ℕ → ℕ → ℕ → ℕ → Bool
is_listener g f worker object set token =
    nat_lt g.queues token && nat_le token 65535 && (set == 1) && nat_lt worker (length g.opened) && is_there f object

-- Exit

abbrev pub bell_steps : Option ℕ → List Small
bell_steps None = []
bell_steps (Some object) = Bell object ∷ []

abbrev pub exit_steps : List Opened → List Small
exit_steps [] = []
exit_steps (w ∷ ws) = bell_steps w.exit ++ exit_steps ws

-- Requests

-- the queue is there
abbrev pub indexed : Wiring → ℕ → Session → Plan → Plan
indexed g queue s plan = tested (nat_lt queue g.queues) error.InvalidParam s plan

unfoldable pub plan_of : Wiring → Frame → List Region → Session → Request → Plan
plan_of g f rs s request.SetOwner =
    tested (not s.owned) (error.InvalidOperation denied.AlreadyClaimed) s
    (answered answer.Ok (record s { owned = true }))
plan_of g f rs s request.ResetOwner = answered answer.Ok (record s { owned = false; features = 0; protocol = 0 })
plan_of g f rs s request.ResetDevice = done (reset_steps g f) (record s { features = 0 })
plan_of g f rs s request.GetFeatures = answered (answer.Number g.features) s
plan_of g f rs s request.GetProtocolFeatures = answered (answer.Number g.protocol) s
plan_of g f rs s request.GetQueueNum = answered (answer.Number g.queues) s
plan_of g f rs s request.GetMaxMemSlots = answered (answer.Number 509) s
plan_of g f rs s (request.SetFeatures bits) =
    tested (are_offered g.features bits) error.InvalidParam s
    (done (features_steps g f bits) (record s { features = bits }))
plan_of g f rs s (request.SetProtocolFeatures bits) = answered answer.Ok (record s { protocol = bits })
plan_of g f rs s (request.SetMemTable parts contents flag) =
    no_flag flag s
    (table_plan rs (table_op.Replace (regions_for parts contents))
    (record s { mappings = mappings_for parts contents }))
plan_of g f rs s (request.AddMemRegion part content flag) =
    no_flag flag s
    (table_plan rs (table_op.Insert (region_for part content))
    (record s { mappings = s.mappings ++ mapping_for part ∷ [] }))
plan_of g f rs s (request.RemoveMemRegion start len) =
    table_plan rs (table_op.Remove start len) (record s { mappings = filter (λ m. not (m.start == start)) s.mappings })
plan_of g f rs s (request.SetLogBase size offset object) = done (Log object offset size ∷ Answering ∷ []) s
plan_of g f rs s (request.SetVringNum queue n) =
    indexed g queue s (tested (is_size g n) error.InvalidParam s (done (Set queue (op.SetSize n) ∷ Answering ∷ []) s))
plan_of g f rs s (request.SetVringAddr queue flags desc used avail log) =
    indexed g queue s (addr_plan queue s desc avail used)
plan_of g f rs s (request.SetVringBase queue n) =
    indexed g queue s (done (Set queue (op.SetBase (n % 2 ^ 16)) ∷ Answering ∷ []) s)
plan_of g f rs s (request.GetVringBase queue) =
    indexed g queue s (record { steps = stop_steps g queue (known_at f queue); reply = next_of queue; session = s })
plan_of g f rs s (request.SetVringKick queue event) =
    indexed g queue s (done (kick_steps g queue (known_at f queue) event) s)
plan_of g f rs s (request.SetVringCall queue event) =
    indexed g queue s (done (call_steps g queue (known_at f queue) event) s)
plan_of g f rs s (request.SetVringErr queue event) =
    indexed g queue s (done (Set queue (op.SetErr event) ∷ Answering ∷ []) s)
plan_of g f rs s (request.SetVringEnable queue enabled) =
    tested (has_bit s.features 30) error.InactiveFeature s
    (indexed g queue s (done (enable_steps g queue (known_at f queue) enabled ++ Answering ∷ []) s))
plan_of g f rs s (request.GetConfig offset size flags) = asks (device.GetConfig offset size) s
plan_of g f rs s (request.SetConfig offset bytes flags) = asks (device.SetConfig offset bytes) s
plan_of g f rs s (request.SetBackendReqFd object) =
    let backend : Backend =
    record { object = object; reply_ack = has_bit s.protocol 3; shared_object = has_bit s.protocol 18 } in
    asks (device.SetBackendReqFd backend) s
plan_of g f rs s (request.SetGpuSocket object) = asks (device.SetGpuSocket object) s
plan_of g f rs s request.CheckDeviceState = asks device.CheckDeviceState s
plan_of g f rs s (request.GetSharedObject uuid) = asks (device.GetSharedObject uuid) s
plan_of g f rs s (request.SetDeviceStateFd direction phase object) =
    asks (device.SetDeviceStateFd direction phase object) s
plan_of g f rs s request.GetShmemConfig = asks device.GetShmemConfig s
plan_of g f rs s request.GetInflightFd = refused (error.InvalidOperation denied.NotSupported) s
plan_of g f rs s (request.SetInflightFd object) = refused (error.InvalidOperation denied.NotSupported) s
plan_of g f rs s (request.RegisterListener worker event set token) =
    if is_listener g f worker event set token
    then done (Listen worker event token ∷ Answering ∷ []) s
    else listener_refused s
plan_of g f rs s (request.UnregisterListener worker event set token) =
    if is_listener g f worker event set token
    then done (Unlisten worker event g.queues ∷ Answering ∷ []) s
    else listener_refused s
plan_of g f rs s request.SendExit = done (exit_steps g.opened ++ Answering ∷ []) s
