-- What a worker's step leaves of the service, and of the workers.
use Rattle.std.proofs.Common.{◌≡◌, ℕ, zero, suc, ◌+◌, ◌<◌, ◌⊎◌, inl, inr, Bool, true, false, List, [], ◌∷◌, length, get_or, set, Option, Some, None, IsSome, Result, Ok, Err, OnErr, refl, sym, ap, subst, ◌∙◌, arith}
use Rattle.vub_queue.specs.declared.putting.PutFault.{PutFault}
use Rattle.vub_model.specs.declared.entry.Entry.{Entry}
use Rattle.vub_model.specs.declared.play.Play.{Play}
use Rattle.vub_model.specs.declared.play.Play.TheVariants as play
use Rattle.vub_model.specs.declared.phase.Phase.{Phase}
use Rattle.vub_model.specs.Shared.{Shared}
use Rattle.vub_model.specs.Service.{Meaning}
use Rattle.vub_model.specs.Wiring.{Wiring}
use Rattle.vub_model.specs.Work.{Local, MayWork, after_work, after_take, after_said, called, used, put_said}
use Rattle.vub_model.proofs.Cases.{work-cases, event-shared, take-leaf, none-leaf}
use Rattle.vub_loop.specs.Worker.{Worker}
use Rattle.vub_loop.specs.Finished.{finished_by}
use Rattle.vub_loop.specs.Handler.{IsHandler, SameWorker}
use Rattle.vub_core.specs.Stepped.{IsTurn}
use Rattle.vub_core.specs.Workers.{AreHandlers}

-- The service

abbrev Keeps : {V : Type 0} → Shared V → Local V → Type 0
Keeps old l = l.shared.service ≡ old.service

take-keeps : {V : Type 0} (old : Shared V) (queues : List ℕ) → Keeps old (after_take old queues)
take-keeps old [] = refl
take-keeps {V} old (q ∷ rest) =
    take-leaf old (λ l. Keeps old l) q rest (λ c is. refl) (λ is. none-leaf old (λ (h : Shared V). h.service ≡ old.service) q (λ live. refl) (λ dead. refl)) (λ d is. refl)

called-keeps : {V : Type 0} (h : Shared V) (call : Option ℕ) (wanted : Bool) → (called h call wanted).service ≡ h.service
called-keeps h call false = refl
called-keeps h None true = refl
called-keeps h (Some object) true = refl

said-keeps : {V : Type 0} (old : Shared V) (e : Entry) (reply queues : List ℕ) (said : Result Bool PutFault) → Keeps old (after_said old e reply queues said)
said-keeps old e reply queues (Ok wanted) = called-keeps (used old e reply) _ wanted
said-keeps old e reply queues (Err fault) = refl

-- a step that records a take or a use leaves the service
work-keeps : {V : Type 0} (m : Meaning V) (g : Wiring) (k : ℕ) (old : Shared V) (now before : Phase) (l : Play) → MayWork g k old before l → (l ≡ play.Take) ⊎ IsSome (finished_by l before now) → Keeps old (after_work m g k old before l)
work-keeps {V} m g k old now before l may =
    work-cases g k old (λ phase l. (l ≡ play.Take) ⊎ IsSome (finished_by l phase now) → Keeps old (after_work m g k old phase l))
    (λ object ready cause. refl)
    (λ object token cause. event-shared g k old (λ (h : Shared V). h.service ≡ old.service) object token refl (λ o. refl))
    (λ cause. refl)
    (λ token said cause. refl)
    (λ queues cause. take-keeps old queues)
    (λ e queues cause. elim cause [ inl take ↦ absurd cc | inr some ↦ (let bad : false ≡ true = some in absurd cc) ])
    (λ e reply queues cause. said-keeps old e reply queues (put_said old e reply))
    before l may

row-keeps : {V : Type 0} (m : Meaning V) (g : Wiring) (k : ℕ) (old new : Shared V) (now before : Phase) (l : Play) → MayWork g k old before l → record { shared = new; phase = now } ≡ after_work m g k old before l → (l ≡ play.Take) ⊎ IsSome (finished_by l before now) → new.service ≡ old.service
row-keeps {V} m g k old new now before l may row cause = ap (λ (x : Local V). x.shared.service) row ∙ work-keeps m g k old now before l may cause

pub turn-keeps : {V : Type 0} (m : Meaning V) (g : Wiring) (k : ℕ) (old new : Shared V) (now before : Phase) (l : Play) → IsTurn m g k l before now old new → (l ≡ play.Take) ⊎ IsSome (finished_by l before now) → new.service ≡ old.service
turn-keeps {V} m g k old new now before play.Pass row cause = ap (λ (h : Shared V). h.service) row.1
turn-keeps m g k old new now before l row cause = row-keeps m g k old new now before l row.0 row.1 cause

-- The workers

pub handler-at : (g : Wiring) (k : ℕ) (hs : List Worker) (i : ℕ) (d : Worker) → AreHandlers g k hs → i < length hs → IsHandler g (k + i) (get_or hs i d)
handler-at g k [] i d all within = absurd (omega arith)
handler-at g k (h ∷ hs) zero d all within = let P : ℕ → Type 0 = λ n. IsHandler g n h in let e : k ≡ k + 0 = omega arith in subst P e all.0
handler-at g k (h ∷ hs) (suc i) d all within = let P : ℕ → Type 0 = λ n. IsHandler g n (get_or hs i d) in let e : k + 1 + i ≡ k + suc i = omega arith in subst P e (handler-at g (k + 1) hs i d all.1 (omega arith))

same-handler : (g : Wiring) (k : ℕ) (old new : Worker) → IsHandler g k old → SameWorker old new → IsHandler g k new
same-handler g k old new is same = record {
  number = ap (λ o. o.worker) same.opened ∙ is.number;
  opened = same.opened ∙ is.opened;
  queues = same.queues ∙ is.queues;
  count = same.count ∙ is.count;
}

pub handlers-set : (g : Wiring) (k : ℕ) (hs : List Worker) (i : ℕ) (d new : Worker) → AreHandlers g k hs → SameWorker (get_or hs i d) new → AreHandlers g k (set hs i new)
handlers-set g k [] i d new all same = tt
handlers-set g k (h ∷ hs) zero d new all same = (same-handler g k h new all.0 same, all.1)
handlers-set g k (h ∷ hs) (suc i) d new all same = (all.0, handlers-set g (k + 1) hs i d new all.1 same)

-- the worker that is at this place
pub handler-here : (g : Wiring) (hs : List Worker) (i : ℕ) (old : Worker) → AreHandlers g 0 hs → i < length hs → old ≡ get_or hs i old → IsHandler g i old
handler-here g hs i old all within is =
    let P : ℕ → Type 0 = λ n. IsHandler g n (get_or hs i old) in
    let e : 0 + i ≡ i = omega arith in
    subst (λ h. IsHandler g i h) (sym is) (subst P e (handler-at g 0 hs i old all within))

-- the workers with one that has played a step
pub handlers-again : (g : Wiring) (hs : List Worker) (i : ℕ) (old new : Worker) → AreHandlers g 0 hs → old ≡ get_or hs i old → SameWorker old new → AreHandlers g 0 (set hs i new)
handlers-again g hs i old new all is same = handlers-set g 0 hs i old new all (let P : Worker → Type 0 = λ h. SameWorker h new in subst P is same)

pub same-taken : (old new taken : Worker) → SameWorker old new → taken ≡ record new { finished = None } → SameWorker old taken
same-taken old new taken same is = let P : Worker → Type 0 = λ h. SameWorker old h in subst P (sym is) (record { opened = same.opened; queues = same.queues; count = same.count })

pub on-err : {T E P : Type 0} (r : Result T E) → P → OnErr r P
on-err (Ok x) p = tt
on-err (Err e) p = p
