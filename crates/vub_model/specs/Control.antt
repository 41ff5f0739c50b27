-- Control's small steps: which may be played, what each makes of what is held, and what is left of the plan after it.
-- A step names only events and lists that are there, so no call of the host is refused for want of one.
use Rattle.std.specs.Prelude.{◌≡◌, ℕ, ◌+◌, Bool, true, false, ◌||◌, not, if◌then◌else◌, List, [], ◌∷◌, ◌++◌, Option}
use Rattle.std.specs.Prelude.{Some, None, is_some, map, Result, Ok, Err}
use Rattle.std.specs.Int.{w16}
use Rattle.vub_mem.specs.Memory.{Guest}
use Rattle.vub_mem.specs.Place.{covers, number_at}
use Rattle.vub_mem.specs.Table as table
use Rattle.vub_mem.specs.Track.{log_fault, with_log}
use Rattle.vub_mem.specs.declared.errors.LogError.{LogError}
use Rattle.vub_mem.specs.declared.errors.MemError.{MemError}
use Rattle.vub_mem.specs.declared.region.Region.{Region}
use Rattle.vub_event.specs.HostTable.{HostTable, event_at, member_at, is_listed}
use Rattle.vub_event.specs.HostCalls.{may_claim, has_token_above, claim_after, release_after, add_after, delete_after}
use Rattle.vub_event.specs.HostCalls.{listener}
use Rattle.vub_proto.specs.declared.answer.Answer.{Answer}
use Rattle.vub_proto.specs.declared.answer.Answer.TheVariants as answer
use Rattle.vub_proto.specs.declared.answer.Cause.TheVariants as cause
use Rattle.vub_proto.specs.declared.answer.ListenerError.TheVariants as listener_error
use Rattle.vub_proto.specs.declared.answer.VhostUserError.TheVariants as error
use Rattle.vub_proto.specs.declared.device_op.DeviceOp.{DeviceOp}
use Rattle.vub_proto.specs.declared.device_op.DeviceOp.TheVariants as device
use Rattle.vub_proto.specs.declared.device_said.DeviceSaid.{DeviceSaid}
use Rattle.vub_proto.specs.declared.device_said.DeviceSaid.TheVariants as outcome
use Rattle.vub_proto.specs.declared.request.Request.{Request}
use Rattle.vub_model.specs.declared.ring_op.RingOp.TheVariants as op
use Rattle.vub_model.specs.declared.session.Session.{Session}
use Rattle.vub_model.specs.declared.small.Small.{Small}
use Rattle.vub_model.specs.declared.small.Small.TheVariants.{Claim, Release, Add, Delete, Listen, Unlisten, Bell}
use Rattle.vub_model.specs.declared.small.Small.TheVariants.{Remove, Insert, Set, Info, Table, Log, Device}
use Rattle.vub_model.specs.declared.small.Small.TheVariants.{Answer as Answering}
use Rattle.vub_model.specs.declared.small.TableOp.{TableOp}
use Rattle.vub_model.specs.declared.small.TableOp.TheVariants as table_op
use Rattle.vub_model.specs.RingRecord.{waits, ring_after, is_in_flight}
use Rattle.vub_model.specs.Shared.{Shared, ring_at, with_ring, raised, inserted, removed}
use Rattle.vub_model.specs.Frame.{Frame, claim_of, frame_of}
use Rattle.vub_model.specs.Wiring.{Wiring, opened_at}
use Rattle.vub_model.specs.Plans.{Reply, says, next_of, Plan, regions_after, plan_of}

pub record Control : Type 0 where
  pub session : Session
  -- what is left of the request at hand; no steps where there is none
  pub plan : Plan
  -- the requests that are left
  pub requests : List Request
  -- what was answered so far, in order
  pub answers : List Answer

-- Tests of the steps that may be refused

-- another queue claims the event, or it is unclaimed and some list has it
abbrev pub can_claim : HostTable → ℕ → ℕ → Bool
can_claim t object queue = may_claim queue (is_listed t object) (claim_of (event_at t object))

abbrev pub can_add : HostTable → ℕ → ℕ → Bool
can_add t list object = not (is_some (member_at t list object))

abbrev pub can_listen : HostTable → ℕ → ℕ → Bool
can_listen t list object = not (is_some (member_at t list object) || is_some (claim_of (event_at t object)))

abbrev pub can_unlisten : HostTable → ℕ → ℕ → ℕ → Bool
can_unlisten t list object above = has_token_above above (member_at t list object)

abbrev pub error_of : {A E : Type 0} → Result A E → Option E
error_of (Ok x) = None
error_of (Err e) = Some e

-- why a change of the table is refused
abbrev pub table_refusal : Guest → TableOp → Option MemError
table_refusal g (table_op.Replace new) = table.table_fault g.contents new
table_refusal g (table_op.Insert r) = table.insert_fault g.contents g.regions r
table_refusal g (table_op.Remove start len) = error_of (table.remove_answer g.regions start len)

-- why the regions get no log: this part of this log, from byte offset on
abbrev pub log_refusal : {V : Type 0} → Wiring → Shared V → ℕ → ℕ → ℕ → Option LogError
log_refusal g h object offset size = log_fault (λ log. log.len) h.logs h.guest.regions object offset size g.tracks

abbrev pub used_index_covers : Guest → ℕ → Bool
used_index_covers g used = covers g.regions (used + 2) 2

-- What is held after a step

-- the used index that stands there, if it can be read
abbrev pub next_used_at : Guest → ℕ → Option ℕ
next_used_at g used = if used_index_covers g used then Some (number_at w16 g (used + 2)) else None

abbrev pub regions_unless : Option MemError → List Region → List Region → List Region
regions_unless None new old = new
regions_unless (Some e) new old = old

-- the regions with this part of this log, or as they were
abbrev pub logged_unless : Option LogError → ℕ → ℕ → List Region → List Region
logged_unless None object offset rs = map (λ r. with_log object offset r) rs
logged_unless (Some e) object offset rs = rs

abbrev pub small_after : {V : Type 0} → Wiring → Shared V → Small → Shared V
small_after g h (Claim object queue) =
    record h { table = if can_claim h.table object queue then claim_after h.table object queue else h.table }
small_after g h (Release object) = record h { table = release_after h.table object }
small_after g h (Add worker object token) =
    record h {
      table =
          if can_add h.table (opened_at g worker).list object
          then add_after h.table (opened_at g worker).list (listener object token)
          else h.table;
    }
small_after g h (Delete worker object) = record h { table = delete_after h.table (opened_at g worker).list object }
small_after g h (Listen worker object token) =
    record h {
      table =
          if can_listen h.table (opened_at g worker).list object
          then add_after h.table (opened_at g worker).list (listener object token)
          else h.table;
    }
small_after g h (Unlisten worker object above) =
    record h {
      table =
          if can_unlisten h.table (opened_at g worker).list object above
          then delete_after h.table (opened_at g worker).list object
          else h.table;
    }
small_after g h (Bell object) = raised h object
small_after g h (Remove worker number) = removed h worker number
small_after g h (Insert worker number) = inserted h worker number
small_after g h (Set queue o) = with_ring h queue (ring_after (ring_at h queue) o)
small_after g h (Info queue desc avail used) =
    with_ring h queue (ring_after (ring_at h queue) (op.SetInfo desc avail used (next_used_at h.guest used)))
small_after g h (Table change) =
    record h {
      guest = record h.guest {
        regions = regions_unless (table_refusal h.guest change) (regions_after h.guest.regions change) h.guest.regions;
      };
    }
small_after g h (Log object offset size) =
    record h {
      guest = record h.guest {
        regions = logged_unless (log_refusal g h object offset size) object offset h.guest.regions;
      };
    }
small_after g h s = h

-- Which step may be played

-- an entry in flight lets the step wait
abbrev pub waits_now : {V : Type 0} → Shared V → Small → Bool
waits_now h (Set queue o) = waits (ring_at h queue) o
waits_now h (Info queue desc avail used) = is_in_flight (ring_at h queue).flight
waits_now h s = false

-- the outcome is one that this call may have
abbrev pub IsOutcome : DeviceOp → DeviceSaid → Type 0
IsOutcome (device.AckedFeatures bits) outcome.Done = Unit {0}
IsOutcome device.ResetDevice outcome.Done = Unit {0}
IsOutcome (device.SetEventIdx enabled) outcome.Done = Unit {0}
IsOutcome (device.SetBackendReqFd backend) outcome.Done = Unit {0}
IsOutcome (device.GetConfig offset size) (outcome.Content bytes) = Unit {0}
IsOutcome (device.SetConfig offset bytes) outcome.Done = Unit {0}
IsOutcome (device.SetConfig offset bytes) (outcome.Refused n) = Unit {0}
IsOutcome (device.UpdateMemory regions) outcome.Done = Unit {0}
IsOutcome (device.UpdateMemory regions) (outcome.Refused n) = Unit {0}
IsOutcome (device.StopVring queue) outcome.Done = Unit {0}
IsOutcome (device.StopVring queue) (outcome.Refused n) = Unit {0}
IsOutcome (device.HandleEvent token worker) outcome.Done = Unit {0}
IsOutcome (device.HandleEvent token worker) (outcome.Refused n) = Unit {0}
IsOutcome (device.GetSharedObject uuid) (outcome.Object (Some object)) = Unit {0}
IsOutcome (device.GetSharedObject uuid) (outcome.Refused n) = Unit {0}
IsOutcome (device.SetGpuSocket object) outcome.Done = Unit {0}
IsOutcome (device.SetGpuSocket object) (outcome.Refused n) = Unit {0}
IsOutcome (device.SetDeviceStateFd direction phase object) (outcome.Object answer) = Unit {0}
IsOutcome (device.SetDeviceStateFd direction phase object) (outcome.Refused n) = Unit {0}
IsOutcome device.CheckDeviceState outcome.Done = Unit {0}
IsOutcome device.CheckDeviceState (outcome.Refused n) = Unit {0}
IsOutcome device.GetShmemConfig (outcome.Number n) = Unit {0}
IsOutcome device.GetShmemConfig (outcome.Refused n) = Unit {0}
IsOutcome call said = ⊥

-- only the device has an outcome of its own
abbrev pub MaySay : Small → DeviceSaid → Type 0
MaySay (Device call) said = IsOutcome call said
MaySay s said = said ≡ outcome.Done

-- control has no step: its plan is at its end, or its first step waits
abbrev pub StandsStill : {V : Type 0} → Shared V → List Small → Type 0
StandsStill h [] = Unit {0}
StandsStill h (s ∷ rest) = waits_now h s ≡ true

-- the plan's first step, where it does not wait
abbrev pub MayControl : {V : Type 0} → Shared V → List Small → Small → DeviceSaid → Type 0
MayControl h [] s said = ⊥
MayControl h (t ∷ rest) s said = (s ≡ t) × (waits_now h t ≡ false) × MaySay t said

-- What is left of the plan

-- the Answer alone, with this answer
abbrev pub instead : Answer → Plan → Plan
instead a p = record p { steps = Answering ∷ []; reply = says a }

abbrev pub told : Answer → Plan → Plan
told a p = record p { reply = says a }

abbrev pub tail_of : List Small → List Small
tail_of [] = []
tail_of (s ∷ rest) = rest

abbrev pub drop_two : List Small → List Small
drop_two steps = tail_of (tail_of steps)

abbrev pub after_outcome : DeviceSaid → Plan → Plan
after_outcome outcome.Done p = p
after_outcome (outcome.Content bytes) p = told (answer.Content bytes) p
after_outcome (outcome.Object object) p = told (answer.Object object) p
after_outcome (outcome.Number n) p = told (answer.Number n) p
after_outcome (outcome.Refused n) p = instead (answer.Failed (error.ReqHandlerError (cause.Device n))) p

abbrev pub after_refusal : Option MemError → Plan → Plan
after_refusal None p = p
after_refusal (Some e) p = instead (answer.Failed (error.ReqHandlerError (cause.Memory e))) p

abbrev pub after_log_refusal : Option LogError → Plan → Plan
after_log_refusal None p = p
after_log_refusal (Some e) p = instead (answer.Failed (error.ReqHandlerError (cause.Log e))) p

-- A refusal is answered alone, and an Add that finds its event there drops the next two steps.
abbrev pub rest_after : {V : Type 0} → Wiring → Shared V → Small → DeviceSaid → Plan → Plan
rest_after g h (Claim object queue) said p =
    if can_claim h.table object queue then p else instead (answer.Failed error.InvalidParam) p
rest_after g h (Add worker object token) said p =
    if can_add h.table (opened_at g worker).list object then p else record p { steps = drop_two p.steps }
rest_after g h (Listen worker object token) said p =
    if can_listen h.table (opened_at g worker).list object
    then p
    else instead (answer.Listener listener_error.AlreadyExists) p
rest_after g h (Unlisten worker object above) said p =
    if can_unlisten h.table (opened_at g worker).list object above
    then p
    else instead (answer.Listener listener_error.NotFound) p
rest_after g h (Info queue desc avail used) said p =
    if used_index_covers h.guest used then p else told (answer.Failed error.BackendInternalError) p
rest_after g h (Table change) said p = after_refusal (table_refusal h.guest change) p
rest_after g h (Log object offset size) said p = after_log_refusal (log_refusal g h object offset size) p
rest_after g h (Device call) said p = after_outcome said p
rest_after g h s said p = p

-- The answer

abbrev pub answer_of : {V : Type 0} → Shared V → Reply → Answer
answer_of h (says a) = a
answer_of h (next_of queue) = answer.Base queue (ring_at h queue).queue.next_avail

abbrev pub answers_by : {V : Type 0} → Shared V → Small → Plan → List Answer
answers_by h Answering p = answer_of h p.reply ∷ []
answers_by h s p = []

abbrev pub is_refusal : Answer → Bool
is_refusal (answer.Failed e) = true
is_refusal (answer.Listener e) = true
is_refusal a = false

abbrev pub session_by : {V : Type 0} → Shared V → Small → Plan → Session → Session
session_by h Answering p s = if is_refusal (answer_of h p.reply) then s else p.session
session_by h step p s = s

-- The next request begins where the one before is answered

abbrev pub begun_from : Wiring → Frame → List Region → Control → List Small → List Request → Control
begun_from g f rs c [] [] = c
begun_from g f rs c [] (r ∷ more) = record c { plan = plan_of g f rs c.session r; requests = more }
begun_from g f rs c (s ∷ steps) requests = c

abbrev pub begun : {V : Type 0} → Wiring → Shared V → Control → Control
begun g h c = begun_from g (frame_of h) h.guest.regions c c.plan.steps c.requests

abbrev pub played : {V : Type 0} → Wiring → Shared V → Control → Small → DeviceSaid → Control
played g h c s said = record c {
  session = session_by h s c.plan c.session;
  plan = rest_after g h s said (record c.plan { steps = tail_of c.plan.steps });
  answers = c.answers ++ answers_by h s c.plan;
}

abbrev pub control_after : {V : Type 0} → Wiring → Shared V → Control → Small → DeviceSaid → Control
control_after g h c s said = begun g (small_after g h s) (played g h c s said)
