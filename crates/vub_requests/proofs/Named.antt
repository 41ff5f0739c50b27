-- Events and lists that are named stay there over control's steps, and a plan comes to name no other.
use Rattle.std.proofs.Common.{◌≡◌, ℕ, nat_lt, Bool, false, cond, ◌&&◌, List, [], ◌∷◌, length, Option, Some, None, is_some, refl, sym, ap, ◌∙◌, slice_index_or}
use Rattle.std.proofs.Math.ListN.{get_or-map}
use Rattle.std.proofs.lemmas.Bool.{cond_both}
use Rattle.std.proofs.lemmas.List.{length-set}
use Rattle.vub_event.specs.declared.member.Member.{Member}
use Rattle.vub_event.specs.HostTable.{HostTable, has_event}
use Rattle.vub_event.specs.HostCalls.{has_both}
use Rattle.vub_mem.specs.declared.errors.LogError.{LogError}
use Rattle.vub_mem.specs.declared.errors.MemError.{MemError}
use Rattle.vub_proto.specs.declared.answer.Answer.{Answer}
use Rattle.vub_proto.specs.declared.answer.Answer.TheVariants as answer
use Rattle.vub_proto.specs.declared.answer.ListenerError.TheVariants as listener_error
use Rattle.vub_proto.specs.declared.answer.VhostUserError.TheVariants as error
use Rattle.vub_proto.specs.declared.device_said.DeviceSaid.{DeviceSaid}
use Rattle.vub_proto.specs.declared.device_said.DeviceSaid.TheVariants as outcome
use Rattle.vub_model.specs.declared.small.Small.{Small}
use Rattle.vub_model.specs.declared.small.Small.TheVariants.{Claim, Release, Add, Delete, Listen, Unlisten, Bell, Remove, Insert, Set, Info, Table, Log, Device, Answer as Answering}
use Rattle.vub_model.specs.Control.{small_after, waits_now, rest_after, after_outcome, after_refusal, after_log_refusal, log_refusal, table_refusal, used_index_covers, can_claim, can_add, can_listen, can_unlisten, told, instead, tail_of, drop_two}
use Rattle.vub_model.specs.Frame.{Frame, frame_of, is_there}
use Rattle.vub_model.specs.FrameSteps.{passes, frame_step}
use Rattle.vub_model.specs.Plans.{Plan}
use Rattle.vub_model.specs.Shared.{Shared}
use Rattle.vub_model.specs.Wiring.{Wiring, opened_at}
use Rattle.vub_model.proofs.FrameSmall.{NamesEvent, frame-small}
use Rattle.vub_model.proofs.Stepping.{frame_after}
use Rattle.vub_handler.specs.Acting.{IsNamed}
use Rattle.vub_requests.specs.Handling.{AllNamed}

event-there : {V : Type 0} (h : Shared V) (o : ℕ) → is_there (frame_of h) o ≡ has_event h.table o
event-there h o = get_or-map is_some h.table.objects o None

-- What a step leaves of the frame

events-after : (g : Wiring) (f : Frame) (s : Small) → (frame_after g f s).events ≡ f.events
events-after g f (Claim object queue) = refl
events-after g f (Release object) = refl
events-after g f (Add worker object token) = refl
events-after g f (Delete worker object) = refl
events-after g f (Listen worker object token) = refl
events-after g f (Unlisten worker object above) = refl
events-after g f (Bell object) = refl
events-after g f (Remove worker number) = refl
events-after g f (Insert worker number) = refl
events-after g f (Set queue o) = refl
events-after g f (Info queue desc avail used) = refl
events-after g f (Table change) = refl
events-after g f (Log object offset size) = refl
events-after g f (Device call) = refl
events-after g f Answering = refl

lists-after : (g : Wiring) (f : Frame) (s : Small) → length (frame_after g f s).lists ≡ length f.lists
lists-after g f (Claim object queue) = refl
lists-after g f (Release object) = refl
lists-after g f (Add worker object token) = length-set f.lists _ _
lists-after g f (Delete worker object) = length-set f.lists _ _
lists-after g f (Listen worker object token) =
    cond_both {A = List (List Member)} (passes g f (Listen worker object token)) (frame_step g f (Listen worker object token)).lists f.lists (λ ls. length ls ≡ length f.lists) (λ _. length-set f.lists _ _) (λ _. refl)
lists-after g f (Unlisten worker object above) = length-set f.lists _ _
lists-after g f (Bell object) = refl
lists-after g f (Remove worker number) = refl
lists-after g f (Insert worker number) = refl
lists-after g f (Set queue o) = refl
lists-after g f (Info queue desc avail used) = refl
lists-after g f (Table change) = refl
lists-after g f (Log object offset size) = refl
lists-after g f (Device call) = refl
lists-after g f Answering = refl

-- What is named after a step

module _ {V : Type 0} (g : Wiring) (a b : Shared V) (events : (frame_of b).events ≡ (frame_of a).events) (lists : length b.table.lists ≡ length a.table.lists) where
  event-kept : (o : ℕ) → has_event b.table o ≡ has_event a.table o
  event-kept o = sym (event-there b o) ∙ ap (λ (es : List Bool). slice_index_or es o false) events ∙ event-there a o

  both-kept : (list o : ℕ) → has_both b.table list o ≡ has_both a.table list o
  both-kept list o = ap (λ n. nat_lt list n && has_event b.table o) lists ∙ ap (λ e. nat_lt list (length a.table.lists) && e) (event-kept o)

  named-kept : (s : Small) → IsNamed g a.table s → IsNamed g b.table s
  named-kept (Claim object queue) is = event-kept object ∙ is
  named-kept (Release object) is = tt
  named-kept (Add worker object token) is = event-kept object ∙ is
  named-kept (Delete worker object) is = event-kept object ∙ is
  named-kept (Listen worker object token) is = both-kept (opened_at g worker).list object ∙ is
  named-kept (Unlisten worker object above) is = both-kept (opened_at g worker).list object ∙ is
  named-kept (Bell object) is = tt
  named-kept (Remove worker number) is = tt
  named-kept (Insert worker number) is = tt
  named-kept (Set queue o) is = tt
  named-kept (Info queue desc avail used) is = tt
  named-kept (Table change) is = tt
  named-kept (Log object offset size) is = tt
  named-kept (Device call) is = tt
  named-kept Answering is = tt

  all-kept : (steps : List Small) → AllNamed g a.table steps → AllNamed g b.table steps
  all-kept [] all = tt
  all-kept (s ∷ steps) all = (named-kept s all.0, all-kept steps all.1)

claims-event : {V : Type 0} (g : Wiring) (h : Shared V) (s : Small) → IsNamed g h.table s → NamesEvent g h s
claims-event g h (Claim object queue) is = event-there h object ∙ is
claims-event g h (Release object) is = tt
claims-event g h (Add worker object token) is = tt
claims-event g h (Delete worker object) is = tt
claims-event g h (Listen worker object token) is = tt
claims-event g h (Unlisten worker object above) is = tt
claims-event g h (Bell object) is = tt
claims-event g h (Remove worker number) is = tt
claims-event g h (Insert worker number) is = tt
claims-event g h (Set queue o) is = tt
claims-event g h (Info queue desc avail used) is = tt
claims-event g h (Table change) is = tt
claims-event g h (Log object offset size) is = tt
claims-event g h (Device call) is = tt
claims-event g h Answering is = tt

pub named-after : {V : Type 0} (g : Wiring) (h : Shared V) (s : Small) → IsNamed g h.table s → waits_now h s ≡ false → (steps : List Small) → AllNamed g h.table steps → AllNamed g (small_after g h s).table steps
named-after {V} g h s is free steps all =
    let frame = frame-small g h s (claims-event g h s is) free in
    all-kept g h (small_after g h s) (ap (λ (f : Frame). f.events) frame ∙ events-after g (frame_of h) s)
    (ap (λ (f : Frame). length f.lists) frame ∙ lists-after g (frame_of h) s) steps all

-- What is left of a plan

tail-named : (g : Wiring) (t : HostTable) (steps : List Small) → AllNamed g t steps → AllNamed g t (tail_of steps)
tail-named g t [] all = tt
tail-named g t (s ∷ steps) all = all.1

pub rest-named : {V : Type 0} (g : Wiring) (h : Shared V) (s : Small) (said : DeviceSaid) (p : Plan) → AllNamed g h.table p.steps → AllNamed g h.table (rest_after g h s said p).steps
rest-named {V} g h s said p all = by s where
  P : Plan → Type 0
  P q = AllNamed g h.table q.steps

  alone : (x : Answer) → P (instead x p)
  alone x = (tt, tt)

  either : (b : Bool) (q r : Plan) → P q → P r → P (cond b q r)
  either b q r x y = cond_both {A = Plan} b q r P (λ _. x) (λ _. y)

  by-outcome : (said : DeviceSaid) → P (after_outcome said p)
  by-outcome outcome.Done = all
  by-outcome (outcome.Content bytes) = all
  by-outcome (outcome.Object object) = all
  by-outcome (outcome.Number n) = all
  by-outcome (outcome.Refused n) = (tt, tt)

  by-refusal : (e : Option MemError) → P (after_refusal e p)
  by-refusal None = all
  by-refusal (Some e) = (tt, tt)

  by-log : (e : Option LogError) → P (after_log_refusal e p)
  by-log None = all
  by-log (Some e) = (tt, tt)

  by : (s : Small) → P (rest_after g h s said p)
  by (Claim object queue) = either (can_claim h.table object queue) p (instead (answer.Failed error.InvalidParam) p) all (alone (answer.Failed error.InvalidParam))
  by (Release object) = all
  by (Add worker object token) = either (can_add h.table (opened_at g worker).list object) p (record p { steps = drop_two p.steps }) all (tail-named g h.table (tail_of p.steps) (tail-named g h.table p.steps all))
  by (Delete worker object) = all
  by (Listen worker object token) = either (can_listen h.table (opened_at g worker).list object) p (instead (answer.Listener listener_error.AlreadyExists) p) all (alone (answer.Listener listener_error.AlreadyExists))
  by (Unlisten worker object above) = either (can_unlisten h.table (opened_at g worker).list object above) p (instead (answer.Listener listener_error.NotFound) p) all (alone (answer.Listener listener_error.NotFound))
  by (Bell object) = all
  by (Remove worker number) = all
  by (Insert worker number) = all
  by (Set queue o) = all
  by (Info queue desc avail used) = either (used_index_covers h.guest used) p (told (answer.Failed error.BackendInternalError) p) all all
  by (Table change) = by-refusal (table_refusal h.guest change)
  by (Log object offset size) = by-log (log_refusal g h object offset size)
  by (Device call) = by-outcome said
  by Answering = all
