-- A world is at rest exactly where the guest's list is done, control stands still and each worker rests.
use Rattle.std.proofs.Common.{◌≡◌, ◌≢◌, ◌↔◌, ℕ, zero, suc, ◌+◌, ◌<◌, ◌≤◌, ◌&&◌, ◌||◌, ◌==◌, not, inl, inr, Bool, true, false, List, [], ◌∷◌, length, map, get_or, drop, IsTrue, length-drop, refl, sym, ap, subst, ◌∙◌, arith}
use Rattle.std.specs.List.{list_all, list_any}
use Rattle.std.proofs.lemmas.Bool.{cases_Bool, cases_lt, and_parts, not-true, eq-eqb}
use Rattle.std.proofs.lemmas.List.{get_or-map, get_or_past, length-map, drop_all}
use Rattle.vub_event.specs.declared.ready.Ready.{Ready}
use Rattle.vub_event.specs.HostTable.{ready_members}
use Rattle.vub_model.specs.declared.cause.StopCause.TheVariants.{Exit}
use Rattle.vub_model.specs.declared.play.Play.{Play}
use Rattle.vub_model.specs.declared.play.Play.TheVariants as play
use Rattle.vub_model.specs.declared.party.Party.TheVariants as party
use Rattle.vub_model.specs.declared.phase.Phase.{Phase}
use Rattle.vub_model.specs.declared.phase.Phase.TheVariants.{Idle, Polled, Sweep, Heard, Serving, Taken, Served, Stopped}
use Rattle.vub_model.specs.declared.setup.Guest.{Guest}
use Rattle.vub_model.specs.declared.small.Small.{Small}
use Rattle.vub_model.specs.declared.small.Small.TheVariants.{Set, Info}
use Rattle.vub_proto.specs.declared.device_said.DeviceSaid.TheVariants as outcome
use Rattle.vub_model.specs.Control.{StandsStill, waits_now}
use Rattle.vub_model.specs.Shared.{Shared}
use Rattle.vub_model.specs.Wiring.{Wiring, opened_at}
use Rattle.vub_model.specs.Work.{MayWork}
use Rattle.vub_model.specs.World.{World, May, phase_at}
use Rattle.vub_model.specs.RunOf.{IsAtRest}
use Rattle.vub_model.proofs.Drive.{control-stands}
use Rattle.vub_vring.specs.declared.store.Store.{Store}
use Rattle.vub_vring.specs.Store.{shared_of}
use Rattle.vub_loop.specs.Worker.{Worker}
use Rattle.vub_loop.specs.Handler.{IsHandler, phase_of}
use Rattle.vub_core.specs.Rest.{is_some_list, has_report, rests_in}
use Rattle.vub_core.specs.Workers.{AreHandlers}
use Rattle.vub_core.proofs.Kept.{handler-at}

-- one worker

none-ready : (reports : List Ready) (object : ℕ) → is_some_list reports ≡ false → list_any (λ r. r.object == object) reports ≡ true → ⊥
none-ready [] object none some = (let bad : false ≡ true = some in absurd cc)
none-ready (r ∷ rs) object none some = (let bad : true ≡ false = none in absurd cc)

some-ready : (reports : List Ready) → is_some_list reports ≡ true → (object : ℕ) × (list_any (λ r. r.object == object) reports ≡ true)
some-ready [] some = (let bad : false ≡ true = some in absurd cc)
some-ready (r ∷ rs) some = (r.object, ap (λ b. b || list_any (λ x. x.object == r.object) rs) (eq-eqb r.object r.object refl))

not_false : (b : Bool) → not b ≡ false → b ≡ true
not_false true is = refl
not_false false is = (let bad : true ≡ false = is in absurd cc)

module _ {V : Type 0} (g : Wiring) (k : ℕ) (h : Shared V) where
  idle-rests : has_report h.table (opened_at g k).list ≡ false → (l : Play) → MayWork g k h Idle l → ⊥
  idle-rests none (play.Poll object) may = none-ready (ready_members h.table (opened_at g k).list) object none may
  idle-rests none l may = may

  pub worker-rests : (phase : Phase) → rests_in h.table (opened_at g k).list phase ≡ true → (l : Play) → MayWork g k h phase l → ⊥
  worker-rests Idle rests l may = idle-rests (not-true (has_report h.table (opened_at g k).list) rests) l may
  worker-rests (Polled object token) rests l may = (let bad : false ≡ true = rests in absurd cc)
  worker-rests Sweep rests l may = (let bad : false ≡ true = rests in absurd cc)
  worker-rests (Heard token) rests l may = (let bad : false ≡ true = rests in absurd cc)
  worker-rests (Serving queues) rests l may = (let bad : false ≡ true = rests in absurd cc)
  worker-rests (Taken e queues) rests l may = (let bad : false ≡ true = rests in absurd cc)
  worker-rests (Served e reply queues) rests l may = (let bad : false ≡ true = rests in absurd cc)
  worker-rests (Stopped cause) rests l may = may

  pub worker-works : (phase : Phase) → rests_in h.table (opened_at g k).list phase ≡ false → (l : Play) × MayWork g k h phase l
  worker-works Idle works = (let some = some-ready (ready_members h.table (opened_at g k).list) (not_false (has_report h.table (opened_at g k).list) works) in (play.Poll some.0, some.1))
  worker-works (Polled object token) works = (play.Event, tt)
  worker-works Sweep works = (play.Sweep, tt)
  worker-works (Heard token) works = (play.Hear outcome.Done, tt)
  worker-works (Serving queues) works = (play.Take, tt)
  worker-works (Taken e queues) works = (play.Serve, tt)
  worker-works (Served e reply queues) works = (play.Put, tt)
  worker-works (Stopped cause) works = (let bad : true ≡ false = works in absurd cc)

-- control that has no step left, or whose next step waits

no-control : {V : Type 0} (w : World V) → StandsStill w.shared w.control.plan.steps → (l : Play) → May w party.Control l → ⊥
no-control w still = (control-stands w).1 still

-- all workers

all-at : {A : Type 0} (p : A → Bool) (xs : List A) (i : ℕ) (d : A) → list_all p xs ≡ true → i < length xs → p (get_or xs i d) ≡ true
all-at p [] i d all within = absurd (omega arith)
all-at p (x ∷ xs) zero d all within = (and_parts (p x) (list_all p xs) all).0
all-at p (x ∷ xs) (suc i) d all within = all-at p xs i d (and_parts (p x) (list_all p xs) all).1 (omega arith)

one-not : {A : Type 0} (p : A → Bool) (xs : List A) (d : A) → list_all p xs ≡ false → (i : ℕ) × (i < length xs) × (p (get_or xs i d) ≡ false)
one-not p [] d none = (let bad : true ≡ false = none in absurd cc)
one-not p (x ∷ xs) d none =
    elim (cases_Bool (p x)) [
      | inl has ↦ (let rest = one-not p xs d (sym (ap (λ b. b && list_all p xs) has) ∙ none) in (suc rest.0, omega (arith, rest.1), rest.2))
      | inr lacks ↦ (zero, omega arith, lacks)
    ]

module _ {V : Type 0} (w : World V) (workers : List Worker) (are : AreHandlers w.wiring 0 workers) (phases : w.phases ≡ map (λ h. phase_of h) workers) where
  abbrev Resting : Worker → Bool
  Resting h = rests_in w.shared.table h.opened.list (phase_of h)

  phase-there : (k : ℕ) (d : Worker) → k < length workers → phase_at w.phases k ≡ phase_of (get_or workers k d)
  phase-there k d within = ap (λ ps. phase_at ps k) phases ∙ get_or-map (λ h. phase_of h) workers k d (Stopped Exit) within

  phase-past : (k : ℕ) → length workers ≤ k → phase_at w.phases k ≡ Stopped Exit
  phase-past k past = ap (λ ps. phase_at ps k) phases ∙ get_or_past (map (λ h. phase_of h) workers) k (Stopped Exit) (let long : length (map (λ h. phase_of h) workers) ≡ length workers = length-map workers (λ h. phase_of h) in omega arith)

  rest-there : (k : ℕ) (d : Worker) → k < length workers → rests_in w.shared.table (opened_at w.wiring k).list (phase_at w.phases k) ≡ Resting (get_or workers k d)
  rest-there k d within =
      let is = handler-at w.wiring 0 workers k d are within in
      let P : ℕ → Type 0 = λ n. IsHandler w.wiring n (get_or workers k d) in
      let own : IsHandler w.wiring k (get_or workers k d) = (let e : 0 + k ≡ k = omega arith in subst P e is) in
      ap (λ p. rests_in w.shared.table (opened_at w.wiring k).list p) (phase-there k d within) ∙ ap (λ o. rests_in w.shared.table o.list (phase_of (get_or workers k d))) (sym own.opened)

  rest-worker : (d : Worker) → list_all (λ h. Resting h) workers ≡ true → (k : ℕ) (l : Play) → MayWork w.wiring k w.shared (phase_at w.phases k) l → ⊥
  rest-worker d all k l may =
      elim (cases_lt k (length workers)) [
        | inl within ↦ worker-rests w.wiring k w.shared (phase_at w.phases k) (rest-there k d within ∙ all-at (λ h. Resting h) workers k d all within) l may
        | inr past ↦ (let gone : MayWork w.wiring k w.shared (Stopped Exit) l = rw (phase-past k past) at may in absurd gone)
      ]

  all-rest : (d : Worker) → w.guest ≡ [] → StandsStill w.shared w.control.plan.steps → list_all (λ h. Resting h) workers ≡ true → IsAtRest w
  all-rest d done none all party.Guest play.Guest may = may done
  all-rest d done none all party.Guest l may = may
  all-rest d done none all party.Control l may = no-control w none l may
  all-rest d done none all (party.Worker k) l may = rest-worker d all k l may

  not-rest : (d : Worker) → list_all (λ h. Resting h) workers ≡ false → IsAtRest w → ⊥
  not-rest d none rest =
      let one = one-not (λ h. Resting h) workers d none in
      let step = worker-works w.wiring one.0 w.shared (phase_at w.phases one.0) (rest-there one.0 d one.1 ∙ one.2) in
      rest (party.Worker one.0) step.0 step.1

no-worker : {V : Type 0} (w : World V) → AreHandlers w.wiring 0 [] → w.phases ≡ map (λ h. phase_of h) [] → w.guest ≡ [] → StandsStill w.shared w.control.plan.steps → IsAtRest w
no-worker w are phases done none party.Guest play.Guest may = may done
no-worker w are phases done none party.Guest l may = may
no-worker w are phases done none party.Control l may = no-control w none l may
no-worker w are phases done none (party.Worker k) l may = (let gone : MayWork w.wiring k w.shared (Stopped Exit) l = rw (phase-past w [] are phases k (omega arith)) at may in absurd gone)

-- the world is at rest exactly where the guest's list is done and each worker rests
pub world-rests : {V : Type 0} (w : World V) (workers : List Worker) → AreHandlers w.wiring 0 workers → w.phases ≡ map (λ h. phase_of h) workers → w.guest ≡ [] → StandsStill w.shared w.control.plan.steps → list_all (λ (h : Worker). rests_in w.shared.table h.opened.list (phase_of h)) workers ≡ true → IsAtRest w
world-rests w [] are phases done none all = no-worker w are phases done none
world-rests w (h ∷ hs) are phases done none all = all-rest w (h ∷ hs) are phases h done none all

pub worker-goes : {V : Type 0} (w : World V) (workers : List Worker) → AreHandlers w.wiring 0 workers → w.phases ≡ map (λ h. phase_of h) workers → list_all (λ (h : Worker). rests_in w.shared.table h.opened.list (phase_of h)) workers ≡ false → IsAtRest w → ⊥
worker-goes w [] are phases none rest = (let bad : true ≡ false = none in absurd cc)
worker-goes w (h ∷ hs) are phases none rest = not-rest w (h ∷ hs) are phases h none rest

pub guest-goes : {V : Type 0} (w : World V) → w.guest ≢ [] → IsAtRest w → ⊥
guest-goes w left rest = rest party.Guest play.Guest left

-- where the guest's list is done, the answer of the workers is the world's
pub rests-both : {V : Type 0} (w : World V) (workers : List Worker) (b : Bool) → AreHandlers w.wiring 0 workers → w.phases ≡ map (λ h. phase_of h) workers → w.guest ≡ [] → StandsStill w.shared w.control.plan.steps → b ≡ list_all (λ (h : Worker). rests_in w.shared.table h.opened.list (phase_of h)) workers → IsTrue b ↔ IsAtRest w
rests-both w workers true are phases done none is = ((λ yes-is. world-rests w workers are phases done none (sym is)), (λ rest. refl))
rests-both w workers false are phases done none is = ((λ bad. let no-way : false ≡ true = bad in absurd cc), (λ rest. absurd (worker-goes w workers are phases (sym is) rest)))

-- where the guest has an action left, there is no rest
pub rests-none : {V : Type 0} (w : World V) (b : Bool) → b ≡ false → w.guest ≢ [] → IsTrue b ↔ IsAtRest w
rests-none w true is left = (let no-way : true ≡ false = is in absurd cc)
rests-none w false is left = ((λ bad. let no-way : false ≡ true = bad in absurd cc), (λ rest. absurd (guest-goes w left rest)))

-- where control has a step, there is no rest
pub rests-other : {V : Type 0} (w : World V) (b : Bool) → b ≡ false → (StandsStill w.shared w.control.plan.steps → ⊥) → IsTrue b ↔ IsAtRest w
rests-other w true is goes = (let no-way : true ≡ false = is in absurd cc)
rests-other w false is goes = ((λ bad. let no-way : false ≡ true = bad in absurd cc), (λ rest. absurd (goes ((control-stands w).0 (rest party.Control)))))

-- whether a step waits is the same for every service
waits-any : {V : Type 0} (s : Store) (v : V) (small : Small) → waits_now (shared_of s v) small ≡ waits_now (shared_of s (tt {0})) small
waits-any s v (Set queue o) = refl
waits-any s v (Info queue desc avail used) = refl
waits-any s v small = refl

pub still-for : {V : Type 0} (s : Store) (v : V) (steps : List Small) → StandsStill (shared_of s (tt {0})) steps ↔ StandsStill (shared_of s v) steps
still-for s v [] = ((λ still. tt), (λ still. tt))
still-for s v (small ∷ rest) = ((λ still. waits-any s v small ∙ still), (λ still. sym (waits-any s v small) ∙ still))

pub guest-done : (guest : List Guest) (acted : ℕ) → length guest ≤ acted → drop acted guest ≡ []
guest-done guest acted past = drop_all acted guest past

pub guest-left : (guest : List Guest) (acted : ℕ) → acted < length guest → drop acted guest ≢ []
guest-left guest acted within none = (let long : length (drop acted guest) ≡ 0 = ap length none in let more = length-drop acted guest in absurd (omega arith))
