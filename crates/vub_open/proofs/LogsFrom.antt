-- The logs of a set-up, object by object, and logs whose numbers are below a bound.
use Rattle.std.proofs.Common.{◌≡◌, ℕ, suc, ◌+◌, ◌<◌, List, [], ◌∷◌, ◌++◌, length, get_or, take, sym, ap, ◌∙◌, arith, length-take}
use Rattle.std.proofs.lemmas.List.{take_more}
use Rattle.std.specs.List.{AllByRecursion}
use Rattle.vub_log.specs.Plain.{Plain, fresh}
use Rattle.vub_mem.specs.declared.dirty.Stored.{Stored}
use Rattle.vub_model.specs.declared.setup.Object.{Object}
use Rattle.vub_model.specs.declared.setup.Object.TheVariants as object
use Rattle.vub_model.specs.Opening.{logs_from}

-- more objects
logs_from-append : (n : ℕ) (os ps : List Object) → logs_from n (os ++ ps) ≡ logs_from n os ++ logs_from (n + length os) ps
logs_from-append n [] ps = (let none : n ≡ n + 0 = omega arith in ap (λ k. logs_from k ps) none)
logs_from-append n (object.Event flags ∷ os) ps =
    logs_from-append (n + 1) os ps
    ∙ (let same : n + 1 + length os ≡ n + suc (length os) = omega arith in ap (λ k. logs_from (n + 1) os ++ logs_from k ps) same)
logs_from-append n (object.Content bytes ∷ os) ps =
    logs_from-append (n + 1) os ps
    ∙ (let same : n + 1 + length os ≡ n + suc (length os) = omega arith in ap (λ k. logs_from (n + 1) os ++ logs_from k ps) same)
logs_from-append n (object.Log len ∷ os) ps =
    ap (λ ss. record { object = n; log = fresh len } ∷ ss) (logs_from-append (n + 1) os ps
    ∙ (let same : n + 1 + length os ≡ n + suc (length os) = omega arith in ap (λ k. logs_from (n + 1) os ++ logs_from k ps) same))

-- one more object
pub logs_more : (os : List Object) (i : ℕ) (o : Object) (old new : List (Stored Plain)) → i < length os → o ≡ get_or os i o → old ≡ logs_from 0 (take i os) → new ≡ old ++ logs_from i (o ∷ []) → new ≡ logs_from 0 (take (i + 1) os)
logs_more os i o old new h at e is =
    let place : 0 + length (take i os) ≡ i = omega (arith, length-take i os) in
    is
    ∙ ap (λ ss. ss ++ logs_from i (o ∷ [])) e
    ∙ sym (ap (λ l. logs_from 0 l) (take_more os i o h ∙ ap (λ x. take i os ++ x ∷ []) (sym at)) ∙ logs_from-append 0 (take i os) (o ∷ []) ∙ ap (λ k. logs_from 0 (take i os) ++ logs_from k (o ∷ [])) place)

-- none of them has the bound as its number
pub below_apart : (ss : List (Stored Plain)) (n : ℕ) → AllByRecursion (λ s. s.object < n) ss → AllByRecursion (λ s. s.object ≡ n → ⊥) ss
below_apart [] n below = tt
below_apart (s ∷ ss) n below = ((λ same. let low : s.object < n = below.0 in absurd (omega arith)), below_apart ss n below.1)

-- a greater bound
pub below_next : (ss : List (Stored Plain)) (n : ℕ) → AllByRecursion (λ s. s.object < n) ss → AllByRecursion (λ s. s.object < n + 1) ss
below_next [] n below = tt
below_next (s ∷ ss) n below = ((let low : s.object < n = below.0 in omega arith), below_next ss n below.1)

-- one more log, with the bound as its number
pub below_push : (ss : List (Stored Plain)) (n : ℕ) (s : Stored Plain) → s.object ≡ n → AllByRecursion (λ s. s.object < n) ss → AllByRecursion (λ s. s.object < n + 1) (ss ++ s ∷ [])
below_push [] n s is below = ((omega arith), tt)
below_push (d ∷ ds) n s is below = ((let low : d.object < n = below.0 in omega arith), below_push ds n s is below.1)
