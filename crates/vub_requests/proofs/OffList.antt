-- A queue that is stopped, disabled or reset is off its worker's list: the plan removes kick and event number before its
-- Answer, and adds nothing.
use Rattle.std.proofs.Common.{◌≡◌, ◌⊎◌, inl, inr, ℕ, zero, suc, ◌<◌, Bool, true, false, cond, not, ◌&&◌, ◌||◌, List, [], ◌∷◌, ◌++◌, length, Option, Some, None, Result, Ok, Err, refl, sym, ap, ◌∙◌, subst, arith, eqb, nat_lt, slice_index_or, slice_set}
use Rattle.std.specs.List.{AllByRecursion}
use Rattle.std.proofs.lemmas.Bool.{cases_lt, cases_eq}
use Rattle.std.proofs.lemmas.List.{append_assoc, get_or-set_same, get_or-set_other, get_or_past, set_past}
use Rattle.vub_mem.specs.declared.region.Region.{Region}
use Rattle.vub_event.specs.declared.event.Event.{Event}
use Rattle.vub_event.specs.declared.member.Member.{Member}
use Rattle.vub_event.specs.HostTable.{HostTable, event_at, has_event, members_at}
use Rattle.vub_event.specs.HostCalls.{with_change, claimed_by, release_after, delete_after}
use Rattle.vub_event.specs.InterestList.{without_member}
use Rattle.vub_proto.specs.declared.answer.Answer.{Answer}
use Rattle.vub_proto.specs.declared.answer.Answer.TheVariants as answer
use Rattle.vub_proto.specs.declared.answer.VhostUserError.{VhostUserError}
use Rattle.vub_proto.specs.declared.answer.VhostUserError.TheVariants as error
use Rattle.vub_proto.specs.declared.device_op.DeviceOp.TheVariants as device
use Rattle.vub_proto.specs.declared.device_said.DeviceSaid.{DeviceSaid}
use Rattle.vub_proto.specs.declared.device_said.DeviceSaid.TheVariants as outcome
use Rattle.vub_proto.specs.declared.request.Request.{Request}
use Rattle.vub_proto.specs.declared.request.Request.TheVariants as request
use Rattle.vub_model.specs.declared.ring_op.RingOp.TheVariants as op
use Rattle.vub_model.specs.declared.session.Session.{Session}
use Rattle.vub_model.specs.declared.small.Small.{Small}
use Rattle.vub_model.specs.declared.small.Small.TheVariants.{Release, Delete, Remove, Set, Device, Answer as Answering}
use Rattle.vub_model.specs.declared.wiring.Place.{Place}
use Rattle.vub_model.specs.Control.{small_after, rest_after, answers_by, answer_of, tail_of, is_refusal}
use Rattle.vub_model.specs.DeviceCalls.{Telling}
use Rattle.vub_model.specs.Frame.{Frame, frame_of, known_at, is_member}
use Rattle.vub_model.specs.Plans.{Plan, says, done, refused, plan_of, off_steps, update_steps, release_steps, disable_steps, each_queue}
use Rattle.vub_model.specs.Shared.{Shared, pending_at, has_number, without_number, removed}
use Rattle.vub_model.specs.Wiring.{Wiring, opened_at, place_of, has_bit, IsPlaced}
use Rattle.vub_model.proofs.Members.{without-own, without-other}
use Rattle.vub_model.proofs.SchedWork.{kick-ring}
use Rattle.vub_model.proofs.SmallSteps.{lacking-fewer}
use Rattle.vub_ring.proofs.Settling.{told-map}
use Rattle.vub_vring.specs.PartsState.{PartsState, Tells}
use Rattle.vub_plan.specs.Halves.{plan_at, dropped, NamesThere}
use Rattle.vub_handler.specs.Acting.{IsNamed}
use Rattle.vub_handler.specs.Player.{Player}
use Rattle.vub_handler.specs.Playing.{IsKnown, host_answer}
use Rattle.vub_requests.specs.Handling.{AllNamed, ArePlanned, Handles, HandledBy}
use Rattle.vub_requests.specs.OffList.{IsOff, IsOffItsList, KicksAreThere, TakesOff}
use Rattle.vub_requests.specs.declared.unanswered.Unanswered.{Unanswered}
use Rattle.vub_requests.specs.declared.unanswered.Unanswered.TheVariants.{OutOfMemory}
use Rattle.vub_requests.proofs.Walks.{KeepsPlay, KeepsFault, Answered, walk-to}

-- Lists and numbers that are left

without-fewer : (ms : List Member) (o x : ℕ) → is_member ms x ≡ false → is_member (without_member ms o) x ≡ false
without-fewer ms o x off =
    elim (cases_eq x o) [
      | inl same ↦ subst (λ y. is_member (without_member ms o) y ≡ false) (sym same) (without-own ms o)
      | inr other ↦ without-other ms o x other ∙ off
    ]

deleted-keeps : (t : HostTable) (l o j x : ℕ) → is_member (members_at t j) x ≡ false → is_member (members_at (delete_after t l o) j) x ≡ false
unfolding delete_after
deleted-keeps t l o j x off =
    let ms : List Member = without_member (members_at t l) o in
    elim (cases_lt l (length t.lists)) [
      | inr past ↦ ap (λ ls. is_member (slice_index_or ls j []) x) (set_past t.lists l ms past) ∙ off
      | inl within ↦ elim (cases_eq j l) [
        | inr other ↦ ap (λ l. is_member l x) (get_or-set_other t.lists l j ms [] other) ∙ off
        | inl same ↦ (let P : ℕ → Type 0 = λ i. is_member (slice_index_or (slice_set t.lists l ms) i []) x ≡ false in
            subst P (sym same) (ap (λ l. is_member l x) (get_or-set_same t.lists l ms [] within) ∙ without-fewer (members_at t l) o x (ap (λ i. is_member (members_at t i) x) (sym same) ∙ off)))
      ]
    ]

deleted-own : (t : HostTable) (l o : ℕ) → is_member (members_at (delete_after t l o) l) o ≡ false
unfolding delete_after
deleted-own t l o =
    let ms : List Member = without_member (members_at t l) o in
    elim (cases_lt l (length t.lists)) [
      | inl within ↦ ap (λ l. is_member l o) (get_or-set_same t.lists l ms [] within) ∙ without-own (members_at t l) o
      | inr past ↦ ap (λ ls. is_member (slice_index_or ls l []) o) (set_past t.lists l ms past) ∙ ap (λ l. is_member l o) (get_or_past t.lists l [] past)
    ]

changed-lists : (change : Event → Event) (t : HostTable) (o : ℕ) (event : Option Event) → (with_change change t o event).lists ≡ t.lists
changed-lists change t o None = refl
changed-lists change t o (Some event) = refl

released-lists : (t : HostTable) (o : ℕ) → (release_after t o).lists ≡ t.lists
unfolding release_after
released-lists t o = changed-lists (claimed_by None) t o (event_at t o)

lacking-own : (ns : List ℕ) (n : ℕ) → has_number n (without_number ns n) ≡ false
lacking-own [] n = refl
lacking-own (m ∷ ns) n = by (eqb m n) refl (lacking-own ns n) where
  by : (b : Bool) → eqb m n ≡ b → has_number n (without_number ns n) ≡ false → has_number n (cond (not b) (m ∷ without_number ns n) (without_number ns n)) ≡ false
  by true is rest = rest
  by false is rest = ap (λ b. b || has_number n (without_number ns n)) is ∙ rest

lacking-keeps : (ns : List ℕ) (n x : ℕ) → has_number x ns ≡ false → has_number x (without_number ns n) ≡ false
lacking-keeps ns n x off = by (has_number x (without_number ns n)) refl where
  by : (b : Bool) → has_number x (without_number ns n) ≡ b → b ≡ false
  by false is = refl
  by true is = absurd (let no : true ≡ false = sym (lacking-fewer ns n x is) ∙ off in cc)

removed-keeps : {V : Type 0} (h : Shared V) (k n j x : ℕ) → has_number x (pending_at h j) ≡ false → has_number x (pending_at (removed h k n) j) ≡ false
removed-keeps h k n j x off =
    let ns : List ℕ = without_number (pending_at h k) n in
    elim (cases_lt k (length h.pending)) [
      | inr past ↦ ap (λ ps. has_number x (slice_index_or ps j [])) (set_past h.pending k ns past) ∙ off
      | inl within ↦ elim (cases_eq j k) [
        | inr other ↦ ap (λ l. has_number x l) (get_or-set_other h.pending k j ns [] other) ∙ off
        | inl same ↦ (let P : ℕ → Type 0 = λ i. has_number x (slice_index_or (slice_set h.pending k ns) i []) ≡ false in
            subst P (sym same) (ap (λ l. has_number x l) (get_or-set_same h.pending k ns [] within) ∙ lacking-keeps (pending_at h k) n x (ap (λ i. has_number x (pending_at h i)) (sym same) ∙ off)))
      ]
    ]

removed-own : {V : Type 0} (h : Shared V) (k n : ℕ) → has_number n (pending_at (removed h k n) k) ≡ false
removed-own h k n =
    let ns : List ℕ = without_number (pending_at h k) n in
    elim (cases_lt k (length h.pending)) [
      | inl within ↦ ap (λ l. has_number n l) (get_or-set_same h.pending k ns [] within) ∙ lacking-own (pending_at h k) n
      | inr past ↦ ap (λ ps. has_number n (slice_index_or ps k [])) (set_past h.pending k ns past) ∙ ap (λ l. has_number n l) (get_or_past h.pending k [] past)
    ]

-- Steps that only take away

abbrev TakesOnly : Small → Type 0
TakesOnly (Release object) = Unit {0}
TakesOnly (Delete worker object) = Unit {0}
TakesOnly (Remove worker number) = Unit {0}
TakesOnly (Set queue o) = Unit {0}
TakesOnly (Device call) = Unit {0}
TakesOnly s = ⊥

abbrev Has : Small → List Small → Type 0
Has s [] = ⊥
Has s (t ∷ ts) = (t ≡ s) ⊎ Has s ts

has-left : (s : Small) (xs ys : List Small) → Has s xs → Has s (xs ++ ys)
has-left s [] ys has = absurd has
has-left s (x ∷ xs) ys has = elim has [ inl is ↦ inl is | inr more ↦ inr (has-left s xs ys more) ]

has-right : (s : Small) (xs ys : List Small) → Has s ys → Has s (xs ++ ys)
has-right s [] ys has = has
has-right s (x ∷ xs) ys has = inr (has-right s xs ys has)

-- a request that is refused: its Answer alone is left
record Refuses (p : Plan) : Type 0 where
  why : Answer
  steps : p.steps ≡ Answering ∷ []
  reply : p.reply ≡ says why
  refusal : is_refusal why ≡ true

refuses : (e : VhostUserError) (s : Session) → Refuses (refused e s)
refuses e s = record { why = answer.Failed e; steps = refl; reply = refl; refusal = refl }

module _ {V : Type 0} (g : Wiring) (worker number kick : ℕ) where
  -- off the list, or about to be taken off; and the same of the pending number
  record Clears (h : Shared V) (p : Plan) : Type 0 where
    front : List Small
    steps : p.steps ≡ front ++ Answering ∷ []
    only : AllByRecursion TakesOnly front
    list : (is_member (members_at h.table (opened_at g worker).list) kick ≡ false) ⊎ Has (Delete worker kick) front
    pending : (has_number number (pending_at h worker) ≡ false) ⊎ Has (Remove worker number) front

  abbrev Leaves : Shared V → Plan → Type 0
  Leaves h p = Refuses p ⊎ Clears h p

  -- One step

  list-keeps : (h : Shared V) (s : Small) → TakesOnly s → is_member (members_at h.table (opened_at g worker).list) kick ≡ false → is_member (members_at (small_after g h s).table (opened_at g worker).list) kick ≡ false
  list-keeps h (Release object) only off = ap (λ ls. is_member (slice_index_or ls (opened_at g worker).list []) kick) (released-lists h.table object) ∙ off
  list-keeps h (Delete k object) only off = deleted-keeps h.table (opened_at g k).list object (opened_at g worker).list kick off
  list-keeps h (Remove k n) only off = off
  list-keeps h (Set queue o) only off = off
  list-keeps h (Device call) only off = off
  list-keeps h s only off = absurd only

  pending-keeps : (h : Shared V) (s : Small) → TakesOnly s → has_number number (pending_at h worker) ≡ false → has_number number (pending_at (small_after g h s) worker) ≡ false
  pending-keeps h (Release object) only off = off
  pending-keeps h (Delete k object) only off = off
  pending-keeps h (Remove k n) only off = removed-keeps h k n worker number off
  pending-keeps h (Set queue o) only off = off
  pending-keeps h (Device call) only off = off
  pending-keeps h s only off = absurd only

  said-rest : (said : DeviceSaid) (h : Shared V) (p : Plan) (call : _) → ((rest_after g h (Device call) said p).steps ≡ p.steps) ⊎ Refuses (rest_after g h (Device call) said p)
  said-rest outcome.Done h p call = inl refl
  said-rest (outcome.Content bytes) h p call = inl refl
  said-rest (outcome.Object object) h p call = inl refl
  said-rest (outcome.Number n) h p call = inl refl
  said-rest (outcome.Refused n) h p call = inr record { why = answer.Failed (error.ReqHandlerError _); steps = refl; reply = refl; refusal = refl }

  rest-of : (h : Shared V) (s : Small) → TakesOnly s → (said : DeviceSaid) (p : Plan) → ((rest_after g h s said p).steps ≡ p.steps) ⊎ Refuses (rest_after g h s said p)
  rest-of h (Release object) only said p = inl refl
  rest-of h (Delete k object) only said p = inl refl
  rest-of h (Remove k n) only said p = inl refl
  rest-of h (Set queue o) only said p = inl refl
  rest-of h (Device call) only said p = said-rest said h p call
  rest-of h s only said p = absurd only

  list-next : (h : Shared V) (s : Small) (front : List Small) → TakesOnly s → (is_member (members_at h.table (opened_at g worker).list) kick ≡ false) ⊎ Has (Delete worker kick) (s ∷ front)
      → (is_member (members_at (small_after g h s).table (opened_at g worker).list) kick ≡ false) ⊎ Has (Delete worker kick) front
  list-next h s front only (inl off) = inl (list-keeps h s only off)
  list-next h s front only (inr (inl is)) =
      let P : Small → Type 0 = λ t. is_member (members_at (small_after g h t).table (opened_at g worker).list) kick ≡ false in
      inl (subst P (sym is) (deleted-own h.table (opened_at g worker).list kick))
  list-next h s front only (inr (inr more)) = inr more

  pending-next : (h : Shared V) (s : Small) (front : List Small) → TakesOnly s → (has_number number (pending_at h worker) ≡ false) ⊎ Has (Remove worker number) (s ∷ front)
      → (has_number number (pending_at (small_after g h s) worker) ≡ false) ⊎ Has (Remove worker number) front
  pending-next h s front only (inl off) = inl (pending-keeps h s only off)
  pending-next h s front only (inr (inl is)) =
      let P : Small → Type 0 = λ t. has_number number (pending_at (small_after g h t) worker) ≡ false in
      inl (subst P (sym is) (removed-own h worker number))
  pending-next h s front only (inr (inr more)) = inr more

  no-answer : (h : Shared V) (s : Small) (p : Plan) → s ≡ Answering → answers_by h s p ≡ [] → ⊥
  no-answer h s p is silent = let no : answer_of h p.reply ∷ [] ≡ [] = ap (λ t. answers_by h t p) (sym is) ∙ silent in absurd cc

  clears-next : (h : Shared V) (p : Plan) (s : Small) (said : DeviceSaid) → p.steps ≡ s ∷ tail_of p.steps → answers_by h s p ≡ [] → (front : List Small) → p.steps ≡ front ++ Answering ∷ [] → AllByRecursion TakesOnly front
      → (is_member (members_at h.table (opened_at g worker).list) kick ≡ false) ⊎ Has (Delete worker kick) front → (has_number number (pending_at h worker) ≡ false) ⊎ Has (Remove worker number) front → Leaves (small_after g h s) (rest_after g h s said (dropped p))
  clears-next h p s said first silent [] steps only list pending =
      let is : s ∷ tail_of p.steps ≡ Answering ∷ [] = sym first ∙ steps in
      let same : s ≡ Answering = cc in
      absurd (no-answer h s p same silent)
  clears-next h p s said first silent (f ∷ front) steps only list pending =
      let is : s ∷ tail_of p.steps ≡ f ∷ (front ++ Answering ∷ []) = sym first ∙ steps in
      let same : s ≡ f = cc in
      let tail : tail_of p.steps ≡ front ++ Answering ∷ [] = cc in
      let P : Small → Type 0 = λ t. Leaves (small_after g h t) (rest_after g h t said (dropped p)) in
      subst P (sym same)
      (elim (rest-of h f only.0 said (dropped p)) [
        | inl kept ↦ inr record {
          front = front;
          steps = kept ∙ tail;
          only = only.1;
          list = list-next h f front only.0 list;
          pending = pending-next h f front only.0 pending;
        }
        | inr refusal ↦ inl refusal
      ])

  leaves-play : KeepsPlay g Leaves
  leaves-play h p s said (inl refusal) first free silent =
      let is : s ∷ tail_of p.steps ≡ Answering ∷ [] = sym first ∙ refusal.steps in
      let same : s ≡ Answering = cc in
      absurd (no-answer h s p same silent)
  leaves-play h p s said (inr clears) first free silent = clears-next h p s said first silent clears.front clears.steps clears.only clears.list clears.pending

  leaves-fault : KeepsFault Leaves
  leaves-fault h p held = inl record { why = host_answer; steps = refl; reply = refl; refusal = refl }

  -- The Answer

  last-off : (h : Shared V) (p : Plan) → p.steps ≡ Answering ∷ tail_of p.steps → (front : List Small) → p.steps ≡ front ++ Answering ∷ [] → AllByRecursion TakesOnly front
      → (is_member (members_at h.table (opened_at g worker).list) kick ≡ false) ⊎ Has (Delete worker kick) front → (has_number number (pending_at h worker) ≡ false) ⊎ Has (Remove worker number) front → IsOff g worker number kick h
  last-off h p last [] steps only list pending = record {
    list = elim list [ inl off ↦ off | inr has ↦ absurd has ];
    pending = elim pending [ inl off ↦ off | inr has ↦ absurd has ];
  }
  last-off h p last (f ∷ front) steps only list pending =
      let is : Answering ∷ tail_of p.steps ≡ f ∷ (front ++ Answering ∷ []) = sym last ∙ steps in
      let same : f ≡ Answering = cc in
      absurd (subst TakesOnly same only.0)

  ends-off : (x : Answer) (h : Shared V) → is_refusal x ≡ false → Answered Leaves x h → IsOff g worker number kick h
  ends-off x h accepted end = by end.kept where
    by : Leaves h end.plan → IsOff g worker number kick h
    by (inl refusal) =
        let is : x ≡ refusal.why = end.answer ∙ ap (λ r. answer_of h r) refusal.reply in
        absurd (let no : true ≡ false = sym refusal.refusal ∙ ap is_refusal (sym is) ∙ accepted in cc)
    by (inr clears) = last-off h end.plan end.last clears.front clears.steps clears.only clears.list clears.pending

-- Plans

module _ (g : Wiring) (t : HostTable) (worker number kick : ℕ) where
  abbrev Lifts : Small → Type 0
  Lifts s = TakesOnly s × IsNamed g t s

  -- the plan is refused, or takes the kick off the list and the number out of the pending set
  record Lifted (p : Plan) : Type 0 where
    front : List Small
    steps : p.steps ≡ front ++ Answering ∷ []
    lifts : AllByRecursion Lifts front
    list : Has (Delete worker kick) front
    pending : Has (Remove worker number) front

  abbrev Begins : Plan → Type 0
  Begins p = Refuses p ⊎ Lifted p

  only-of : (steps : List Small) → AllByRecursion Lifts steps → AllByRecursion TakesOnly steps
  only-of [] all = tt
  only-of (s ∷ steps) all = (all.0.0, only-of steps all.1)

  named-of : (steps : List Small) → AllByRecursion Lifts steps → AllNamed g t (steps ++ Answering ∷ [])
  named-of [] all = (tt, tt)
  named-of (s ∷ steps) all = (all.0.1, named-of steps all.1)

  begins-named : (p : Plan) → Begins p → AllNamed g t p.steps
  begins-named p (inl refusal) = subst (AllNamed g t) (sym refusal.steps) (tt, tt)
  begins-named p (inr lifted) = subst (AllNamed g t) (sym lifted.steps) (named-of lifted.front lifted.lifts)

  begins-leaves : {V : Type 0} (h : Shared V) (p : Plan) → Begins p → Leaves g worker number kick h p
  begins-leaves h p (inl refusal) = inl refusal
  begins-leaves h p (inr lifted) = inr record {
    front = lifted.front;
    steps = lifted.steps;
    only = only-of lifted.front lifted.lifts;
    list = inr lifted.list;
    pending = inr lifted.pending;
  }

  either : (b : Bool) (p q : Plan) → Begins p → Begins q → Begins (cond b p q)
  either true p q x y = x
  either false p q x y = y

  lifts-append : (xs ys : List Small) → AllByRecursion Lifts xs → AllByRecursion Lifts ys → AllByRecursion Lifts (xs ++ ys)
  lifts-append [] ys first then = then
  lifts-append (x ∷ xs) ys first then = (first.0, lifts-append xs ys first.1 then)

  abbrev There : Option ℕ → Type 0
  There o = (k : ℕ) → o ≡ Some k → has_event t k ≡ true

  off-lifts : (place : Option Place) (o : Option ℕ) → There o → AllByRecursion Lifts (off_steps place o)
  off-lifts (Some p) (Some k) there = ((tt, tt), ((tt, there k refl), tt))
  off-lifts (Some p) None there = tt
  off-lifts None o there = tt

  release-lifts : (o : Option ℕ) → AllByRecursion Lifts (release_steps o)
  release-lifts (Some k) = ((tt, tt), tt)
  release-lifts None = tt

  abbrev here : Option Place
  here = Some (record { worker = worker; number = number })

  off-delete : (place : Option Place) (o : Option ℕ) → place ≡ here → o ≡ Some kick → Has (Delete worker kick) (off_steps place o)
  off-delete place o at is =
      let P : Option Place → Type 0 = λ p. Has (Delete worker kick) (off_steps p o) in
      let K : Option ℕ → Type 0 = λ k. Has (Delete worker kick) (off_steps here k) in
      subst P (sym at) (subst K (sym is) (inr (inl refl)))

  off-remove : (place : Option Place) (o : Option ℕ) → place ≡ here → o ≡ Some kick → Has (Remove worker number) (off_steps place o)
  off-remove place o at is =
      let P : Option Place → Type 0 = λ p. Has (Remove worker number) (off_steps p o) in
      let K : Option ℕ → Type 0 = λ k. Has (Remove worker number) (off_steps here k) in
      subst P (sym at) (subst K (sym is) (inl refl))

  module _ (f : Frame) (rs : List Region) (s : Session) (queue : ℕ) (placed : IsPlaced g queue worker number) (is : (known_at f queue).kick ≡ Some kick) (there : (q : ℕ) → There (known_at f q).kick) where
    abbrev off : List Small
    off = off_steps (place_of g queue) (known_at f queue).kick

    stop-begins : Begins (plan_of g f rs s (request.GetVringBase queue))
    unfolding plan_of
    stop-begins =
        let last : List Small = Device (device.StopVring queue) ∷ Set queue (op.SetKick None) ∷ Set queue (op.SetCall None) ∷ release_steps (known_at f queue).kick in
        either (nat_lt queue g.queues) _ _
        (inr record {
          front = Set queue (op.SetReady false) ∷ (off ++ last);
          steps = ap (λ l. Set queue (op.SetReady false) ∷ l) (sym (append_assoc off last (Answering ∷ [])));
          lifts = ((tt, tt), lifts-append off last (off-lifts (place_of g queue) (known_at f queue).kick (there queue)) ((tt, tt), ((tt, tt), ((tt, tt), release-lifts (known_at f queue).kick))));
          list = inr (has-left (Delete worker kick) off last (off-delete (place_of g queue) (known_at f queue).kick placed.place is));
          pending = inr (has-left (Remove worker number) off last (off-remove (place_of g queue) (known_at f queue).kick placed.place is));
        })
        (inl (refuses error.InvalidParam s))

    disable-begins : (ready enabled : Bool) → enabled ≡ false → Begins (done ((Set queue (op.SetEnabled enabled) ∷ update_steps g queue (known_at f queue).kick (ready && enabled)) ++ Answering ∷ []) s)
    disable-begins ready enabled off_is =
        let P : Bool → Type 0 = λ b. Begins (done ((Set queue (op.SetEnabled b) ∷ update_steps g queue (known_at f queue).kick (ready && b)) ++ Answering ∷ []) s) in
        subst P (sym off_is) (by ready) where
          begins : Begins (done ((Set queue (op.SetEnabled false) ∷ off) ++ Answering ∷ []) s)
          begins = inr record {
            front = Set queue (op.SetEnabled false) ∷ off;
            steps = refl;
            lifts = ((tt, tt), off-lifts (place_of g queue) (known_at f queue).kick (there queue));
            list = inr (off-delete (place_of g queue) (known_at f queue).kick placed.place is);
            pending = inr (off-remove (place_of g queue) (known_at f queue).kick placed.place is);
          }

          by : (b : Bool) → Begins (done ((Set queue (op.SetEnabled false) ∷ update_steps g queue (known_at f queue).kick (b && false)) ++ Answering ∷ []) s)
          by true = begins
          by false = begins

    enable-begins : (enabled : Bool) → enabled ≡ false → Begins (plan_of g f rs s (request.SetVringEnable queue enabled))
    unfolding plan_of
    enable-begins enabled off_is =
        either (has_bit s.features 30) _ _
        (either (nat_lt queue g.queues) _ _ (disable-begins (known_at f queue).ready enabled off_is) (inl (refuses error.InvalidParam s)))
        (inl (refuses error.InactiveFeature s))

    abbrev disable : ℕ → List Small
    disable q = disable_steps g q (known_at f q)

    each-lifts : (n : ℕ) → AllByRecursion Lifts (each_queue disable n)
    each-lifts zero = tt
    each-lifts (suc n) = lifts-append (each_queue disable n) (disable n) (each-lifts n) ((tt, tt), off-lifts (place_of g n) (known_at f n).kick (there n))

    each-has : (x : Small) (n : ℕ) → queue < n → Has x (disable queue) → Has x (each_queue disable n)
    each-has x zero below has = absurd (omega (arith, below))
    each-has x (suc n) below has =
        elim (cases_eq queue n) [
          | inl same ↦ has-right x (each_queue disable n) (disable n) (subst (λ q. Has x (disable q)) same has)
          | inr other ↦ has-left x (each_queue disable n) (disable n) (each-has x n (omega (arith, below, other)) has)
        ]

    reset-begins : Begins (plan_of g f rs s request.ResetDevice)
    unfolding plan_of
    reset-begins =
        let all : List Small = each_queue disable g.queues in
        let last : List Small = Device device.ResetDevice ∷ [] in
        inr record {
          front = all ++ last;
          steps = sym (append_assoc all last (Answering ∷ []));
          lifts = lifts-append all last (each-lifts g.queues) ((tt, tt), tt);
          list = has-left (Delete worker kick) all last (each-has (Delete worker kick) g.queues placed.there (inr (off-delete (place_of g queue) (known_at f queue).kick placed.place is)));
          pending = has-left (Remove worker number) all last (each-has (Remove worker number) g.queues placed.there (inr (off-remove (place_of g queue) (known_at f queue).kick placed.place is)));
        }

-- Requests

-- the plan of this request takes the queue off its list
abbrev LiftsOff : Wiring → Session → Request → ℕ → Type 0
LiftsOff g s r queue =
    (t : HostTable) → (worker number kick : ℕ) → (f : Frame) → (rs : List Region) → IsPlaced g queue worker number → (known_at f queue).kick ≡ Some kick → ((q k : ℕ) → (known_at f q).kick ≡ Some k → has_event t k ≡ true) → Begins g t worker number kick (plan_of g f rs s r)

module _ {V D : Type 0} (tell : Telling D) (r : Request) (before now : Player) (old new : PartsState V D) where
  handled-off : (queue : ℕ) (a : Answer) → ((f : Frame) → NamesThere f r) → LiftsOff before.wiring before.session r queue → Handles tell r before now old new (Ok a) → is_refusal a ≡ false → Tells old new (λ h k. IsKnown h before → KicksAreThere h → IsOffItsList before.wiring queue h k)
  handled-off queue a there lifts handles accepted =
      let g = before.wiring in
      let all = handles.plays.plays in
      let R : Shared V → Shared V → Type 0 = ArePlanned _ _ all.steps before now handles.begun in
      told-map old.shared new.shared R _ (λ h k planned known kicks worker number kick placed is.
      let f = frame_of h in
      let rs = h.guest.regions in
      let events : (q e : ℕ) → (known_at f q).kick ≡ Some e → has_event h.table e ≡ true = λ q e has. kicks q e (sym (kick-ring h q) ∙ has) in
      let begins = lifts h.table worker number kick f rs placed (kick-ring h queue ∙ is) events in
      let plan : plan_at rs handles.begun ≡ plan_of g f rs before.session r = handles.plan f rs (sym known) (there f) in
      let N : Plan → Type 0 = λ p. AllNamed g h.table p.steps in
      let named = subst N (sym plan) (begins-named g h.table worker number kick (plan_of g f rs before.session r) begins) in
      let held = subst (Leaves g worker number kick h) (sym plan) (begins-leaves g h.table worker number kick h (plan_of g f rs before.session r) begins) in
      let end = walk-to g (Leaves g worker number kick) (leaves-play g worker number kick) (leaves-fault g worker number kick) _ _ all.steps a before now handles.begun handles.left h k refl all.answers all.leads (planned named).0 held in
      ends-off g worker number kick a k accepted end)
      all.told

  takes-off : (queue : ℕ) (result : Result Answer Unanswered) → ((f : Frame) → NamesThere f r) → LiftsOff before.wiring before.session r queue → HandledBy tell r before now old new result → TakesOff before queue old new result
  takes-off queue (Err e) there lifts handled = tt
  takes-off queue (Ok a) there lifts (inr unbegun) = absurd (let no : Ok a ≡ Err OutOfMemory = unbegun.refused in cc)
  takes-off queue (Ok a) there lifts (inl handles) = λ accepted. handled-off queue a there lifts handles accepted

module _ {V D : Type 0} (tell : Telling D) (before now : Player) (old new : PartsState V D) (result : Result Answer Unanswered) where
  pub stop_takes_off : (queue : ℕ) → HandledBy tell (request.GetVringBase queue) before now old new result → TakesOff before queue old new result
  stop_takes_off queue handled =
      takes-off tell (request.GetVringBase queue) before now old new queue result (λ f. tt) (λ t worker number kick f rs placed is there. stop-begins before.wiring t worker number kick f rs before.session queue placed is there) handled

  pub disable_takes_off : (queue : ℕ) (enabled : Bool) → HandledBy tell (request.SetVringEnable queue enabled) before now old new result → enabled ≡ false → TakesOff before queue old new result
  disable_takes_off queue enabled handled off_is =
      takes-off tell (request.SetVringEnable queue enabled) before now old new queue result (λ f. tt) (λ t worker number kick f rs placed is there. enable-begins before.wiring t worker number kick f rs before.session queue placed is there enabled off_is) handled

  pub reset_takes_off : HandledBy tell request.ResetDevice before now old new result → (queue : ℕ) → TakesOff before queue old new result
  reset_takes_off handled queue =
      takes-off tell request.ResetDevice before now old new queue result (λ f. tt) (λ t worker number kick f rs placed is there. reset-begins before.wiring t worker number kick f rs before.session queue placed is there) handled
