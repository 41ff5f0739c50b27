-- What a step of control leaves: counters, events, the plan, and what is pending.
use Rattle.std.proofs.Common.{◌≡◌, ℕ, ◌<◌, Bool, true, false, cond, not, ◌&&◌, ◌||◌, inl, inr, List, [], ◌∷◌, length, Option, Some, None, is_some, refl, sym, ap, ◌∙◌, subst, arith, eqb, slice_set, slice_index_or}
use Rattle.std.proofs.Math.Seq.{map-set_same}
use Rattle.std.proofs.Math.ListN.{get_or-map}
use Rattle.std.proofs.lemmas.List.{get_or-set_same, get_or_past}
use Rattle.std.proofs.lemmas.Bool.{cases_lt, eqb-true, eq-eqb}
use Rattle.vub_event.specs.declared.event.Event.{Event}
use Rattle.vub_event.specs.HostTable.{HostTable, event_at, with_event}
use Rattle.vub_event.specs.HostCalls.{with_change, claimed_by, claim_after, release_after, add_after, delete_after, listener}
use Rattle.vub_proto.specs.declared.answer.Answer.TheVariants as answer
use Rattle.vub_proto.specs.declared.answer.VhostUserError.TheVariants as error
use Rattle.vub_proto.specs.declared.answer.ListenerError.TheVariants as listener_error
use Rattle.vub_proto.specs.declared.device_said.DeviceSaid.{DeviceSaid}
use Rattle.vub_proto.specs.declared.request.Request.{Request}
use Rattle.vub_model.specs.declared.small.Small.{Small}
use Rattle.vub_model.specs.declared.small.Small.TheVariants.{Claim, Release, Add, Delete, Listen, Unlisten, Bell, Remove, Insert, Set, Info, Table, Log, Device, Answer as Answering}
use Rattle.vub_model.specs.RingRecord.{fits}
use Rattle.vub_model.specs.Shared.{Shared, count_at, count_of, raised_option, has_number, without_number}
use Rattle.vub_model.specs.Plans.{Plan}
use Rattle.vub_model.specs.Control.{Control, small_after, can_claim, can_add, can_listen, can_unlisten, rest_after, begun_from, instead, told, drop_two, table_refusal, log_refusal, used_index_covers}
use Rattle.vub_model.specs.Frame.{Frame, frame_of, list_at, is_member}
use Rattle.vub_model.specs.FrameSteps.{passes, frame_step}
use Rattle.vub_model.specs.Wiring.{Wiring, opened_at}
use Rattle.vub_model.specs.Schedule.{Linked, Wired, Safe, Fits, First}
use Rattle.vub_model.proofs.Counting.{raised-above, raised-keeps}
use Rattle.vub_model.proofs.Waking.{has-more, has-rest}
use Rattle.vub_model.proofs.Linking.{unlisten-settled}
use Rattle.vub_model.proofs.Stepping.{frame_after, Next, step-next, claim-step, listen-step, add-step, outcome-safe, refusal-safe, log-safe, told-safe}
use Rattle.vub_model.proofs.FrameSmall.{NamesEvent, claim-same, listen-same}

-- no counter falls
count-claim : (t : HostTable) (o x : ℕ) (owner : Option ℕ) (event : Option Event) → event_at t o ≡ event → count_at (with_change (claimed_by owner) t o event) x ≡ count_at t x
count-claim t o x owner None is = refl
count-claim t o x owner (Some e) is =
    sym (get_or-map count_of (slice_set t.objects o (Some (claimed_by owner e))) x None)
    ∙ (ap (λ l. slice_index_or l x 0) (map-set_same count_of t.objects o (Some (claimed_by owner e)) None (sym (ap count_of is))) ∙ get_or-map count_of t.objects x None)

pub counts-kept : {V : Type 0} (g : Wiring) (h : Shared V) (s : Small) (x : ℕ) → 0 < count_at h.table x → 0 < count_at (small_after g h s).table x
unfolding claim_after release_after add_after delete_after
counts-kept g h (Claim o q) x above = elim (can_claim h.table o q) as (λ b. 0 < count_at (cond b (with_change (claimed_by (Some q)) h.table o (event_at h.table o)) h.table) x) [ true ↦ (let e = count-claim h.table o x (Some q) (event_at h.table o) refl in omega (arith, above, e)) | false ↦ above ]
counts-kept g h (Release o) x above = let e = count-claim h.table o x None (event_at h.table o) refl in omega (arith, above, e)
counts-kept g h (Add k o n) x above = elim (can_add h.table (opened_at g k).list o) as (λ b. 0 < count_at (cond b (add_after h.table (opened_at g k).list (listener o n)) h.table) x) [ true ↦ above | false ↦ above ]
counts-kept g h (Listen k o n) x above = elim (can_listen h.table (opened_at g k).list o) as (λ b. 0 < count_at (cond b (add_after h.table (opened_at g k).list (listener o n)) h.table) x) [ true ↦ above | false ↦ above ]
counts-kept g h (Unlisten k o a) x above = elim (can_unlisten h.table (opened_at g k).list o a) as (λ b. 0 < count_at (cond b (delete_after h.table (opened_at g k).list o) h.table) x) [ true ↦ above | false ↦ above ]
counts-kept g h (Bell o) x above = raised-keeps h.table o x above
counts-kept g h (Delete k o) x above = above
counts-kept g h (Remove k n) x above = above
counts-kept g h (Insert k n) x above = above
counts-kept g h (Set q o) x above = above
counts-kept g h (Info q desc avail used) x above = above
counts-kept g h (Table change) x above = above
counts-kept g h (Log o offset size) x above = above
counts-kept g h (Device call) x above = above
counts-kept g h Answering x above = above

-- what remains first after the next request may have begun
pub first-begun : (g : Wiring) (f : Frame) (rs : List _) (c : Control) (steps : List Small) (requests : List Request) (t : Small) → c.plan.steps ≡ steps → First steps t → First (begun_from g f rs c steps requests).plan.steps t
first-begun g f rs c [] requests t is first = absurd first
first-begun g f rs c (s ∷ steps) requests t is first = let P : List Small → Type 0 = λ l. First l t in subst P (sym is) first

-- what a step names is there, and no event comes or goes
pub names : {V : Type 0} (g : Wiring) (h : Shared V) (reply : _) (s : Small) (rest : List Small) → Fits g (frame_of h) reply s rest → NamesEvent g h s × ((frame_after g (frame_of h) s).events ≡ (frame_of h).events)
names g h reply (Claim o q) rest fits = (fits.1, refl)
names g h reply (Release o) rest fits = (tt, refl)
names g h reply (Add k o n) rest fits = (tt, refl)
names g h reply (Delete k o) rest fits = (tt, refl)
names g h reply (Listen k o n) rest fits = (tt, refl)
names g h reply (Unlisten k o a) rest fits = (tt, refl)
names g h reply (Bell o) rest fits = (tt, refl)
names g h reply (Remove k n) rest fits = (tt, refl)
names g h reply (Insert k n) rest fits = (tt, refl)
names g h reply (Set q o) rest fits = (tt, refl)
names g h reply (Info q desc avail used) rest fits = (tt, refl)
names g h reply (Table change) rest fits = (tt, refl)
names g h reply (Log o offset size) rest fits = (tt, refl)
names g h reply (Device call) rest fits = (tt, refl)
names g h reply Answering rest fits = (tt, refl)

-- the plan that is left fits the frame after the step
module _ {V : Type 0} (g : Wiring) (h : Shared V) (said : DeviceSaid) (wired : Wired g (frame_of h)) (l : Linked g (frame_of h)) where
  abbrev f : Frame
  f = frame_of h

  pub left-safe : (s : Small) (p : Plan) → Safe g f p.reply (s ∷ p.steps) → Next g f wired l (frame_after g f s) (rest_after g h s said p)
  left-safe (Claim o q) p safe =
      let N : Bool → Type 0 = λ b. Next g f wired l (record f { claims = cond (passes g f (Claim o q)) (slice_set f.claims o (Some q)) f.claims }) (cond b p (instead (answer.Failed error.InvalidParam) p)) in
      subst N (claim-same g h o q) (claim-step g f wired l o q p safe (passes g f (Claim o q)) refl)
  left-safe (Listen k o n) p safe =
      let N : Bool → Type 0 = λ b. Next g f wired l (record f { lists = cond (passes g f (Listen k o n)) (frame_step g f (Listen k o n)).lists f.lists }) (cond b p (instead (answer.Listener listener_error.AlreadyExists) p)) in
      subst N (listen-same g h k o n) (listen-step g f wired l k o n p safe (passes g f (Listen k o n)) refl)
  left-safe (Add k o n) p safe = by (is_member (list_at g f k) o) (add-step g f wired l k o n p safe) where
    by : (b : Bool) → ((b : Bool) → Next g f wired l (frame_step g f (Add k o n)) (cond b (record p { steps = drop_two p.steps }) p)) → Next g f wired l (frame_step g f (Add k o n)) (cond (not b) p (record p { steps = drop_two p.steps }))
    by true both = both true
    by false both = both false
  left-safe (Unlisten k o above) p safe = by (can_unlisten h.table (opened_at g k).list o above) where
    next : Next g f wired l (frame_step g f (Unlisten k o above)) p
    next = step-next g f wired l (Unlisten k o above) p safe refl

    by : (b : Bool) → Next g f wired l (frame_step g f (Unlisten k o above)) (cond b p (instead (answer.Listener listener_error.NotFound) p))
    by true = next
    by false = (next.0, next.1, ((refl, tt), λ _. unlisten-settled g f wired l safe.0.0 k o above safe.0.1 safe.0.2))
  left-safe (Info q desc avail used) p safe = by (used_index_covers h.guest used) where
    by : (b : Bool) → Next g f wired l f (cond b p (told (answer.Failed error.BackendInternalError) p))
    by true = (wired, l, safe.1 refl)
    by false = (wired, l, told-safe g (answer.Failed error.BackendInternalError) p.reply f p.steps (safe.1 refl))
  left-safe (Table change) p safe = (wired, l, refusal-safe g f (table_refusal h.guest change) p safe.0 (safe.1 refl))
  left-safe (Device call) p safe = (wired, l, outcome-safe g f said p safe.0 (safe.1 refl))
  left-safe (Release o) p safe = step-next g f wired l (Release o) p safe refl
  left-safe (Delete k o) p safe = step-next g f wired l (Delete k o) p safe refl
  left-safe (Bell o) p safe = step-next g f wired l (Bell o) p safe refl
  left-safe (Remove k n) p safe = step-next g f wired l (Remove k n) p safe refl
  left-safe (Insert k n) p safe = step-next g f wired l (Insert k n) p safe refl
  left-safe (Set q o) p safe = step-next g f wired l (Set q o) p safe refl
  left-safe (Log o offset size) p safe = (wired, l, log-safe g f (log_refusal g h o offset size) p safe.0 (safe.1 refl))
  left-safe Answering p safe = step-next g f wired l Answering p safe refl

-- a bell that is there is above zero after it was rung
raised-there : (e : Option Event) → is_some e ≡ true → 0 < count_of (raised_option e)
raised-there None there = absurd cc
raised-there (Some e) there = raised-above e

pub rung-there : (t : HostTable) (o : ℕ) → is_some (event_at t o) ≡ true → 0 < count_at (with_event t o (raised_option (event_at t o))) o
rung-there t o there =
    elim (cases_lt o (length t.objects)) [
      | inl within ↦ (let e = ap count_of (get_or-set_same t.objects o (raised_option (event_at t o)) None within) in let r = raised-there (event_at t o) there in omega (arith, e, r))
      | inr past ↦ absurd (let none = ap (λ (e : Option Event). is_some e) (get_or_past t.objects o None past) in cc)
    ]

-- numbers that are left
pub lacking-none : (ns : List ℕ) (n : ℕ) → ns ≡ [] → without_number ns n ≡ []
lacking-none ns n none = ap (λ l. without_number l n) none

pub lacking-fewer : (ns : List ℕ) (n x : ℕ) → has_number x (without_number ns n) ≡ true → has_number x ns ≡ true
lacking-fewer [] n x has = has
lacking-fewer (m ∷ ns) n x has = by (eqb m n) (lacking-fewer ns n x) has where
  by : (b : Bool) → (has_number x (without_number ns n) ≡ true → has_number x ns ≡ true) → has_number x (cond (not b) (m ∷ without_number ns n) (without_number ns n)) ≡ true → has_number x (m ∷ ns) ≡ true
  by true more has = has-more x m ns (more has)
  by false more has = go (eqb m x) more has where
    go : (c : Bool) → (has_number x (without_number ns n) ≡ true → has_number x ns ≡ true) → (c || has_number x (without_number ns n)) ≡ true → (c || has_number x ns) ≡ true
    go true more has = refl
    go false more has = more has

pub lacking-other : (ns : List ℕ) (n x : ℕ) → (x ≡ n → ⊥) → has_number x ns ≡ true → has_number x (without_number ns n) ≡ true
lacking-other [] n x other has = has
lacking-other (m ∷ ns) n x other has = by (eqb m n) refl (lacking-other ns n x other) has where
  by : (b : Bool) → eqb m n ≡ b → (has_number x ns ≡ true → has_number x (without_number ns n) ≡ true) → has_number x (m ∷ ns) ≡ true → has_number x (cond (not b) (m ∷ without_number ns n) (without_number ns n)) ≡ true
  by true is more has = more (has-rest x m ns (λ same. other (sym same ∙ eqb-true m n is)) has)
  by false is more has = go (eqb m x) more has where
    go : (c : Bool) → (has_number x ns ≡ true → has_number x (without_number ns n) ≡ true) → (c || has_number x ns) ≡ true → (c || has_number x (without_number ns n)) ≡ true
    go true more has = refl
    go false more has = more has

-- Calm queues

pub calm-of : (a b c : Bool) → not a && b && c ≡ true → b ≡ true
calm-of false true true h = refl
calm-of false true false h = absurd cc
calm-of false false c h = absurd cc
calm-of true b c h = absurd cc

pub never-calm : (p : ℕ) (b c : Bool) (X : Type 0) → not (eqb p p) && b && c ≡ true → X
never-calm p b c X is = let e = eq-eqb p p refl in let F = ap (λ x. not x && b && c) (sym e) ∙ is in absurd cc

and-left : (b : Bool) → b && true ≡ true → b ≡ true
and-left true h = refl
and-left false h = absurd cc

pub and-none : (b : Bool) → b && false ≡ true → ⊥
and-none true h = absurd cc
and-none false h = absurd cc
