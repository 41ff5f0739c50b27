-- The first place at which records and calls differ, found place by place.
use Rattle.std.proofs.Common.{◌≡◌, ◌⊎◌, inl, inr, ℕ, zero, suc, ◌+◌, ◌<◌, ◌≤◌, List, [], ◌∷◌, length, drop, refl, sym, ap, subst, arith}
use Rattle.std.specs.Prelude.{slice_index_or, slice_get, Option, Some, None, min}
use Rattle.vub_locks.specs.declared.records.Served.{Served}
use Rattle.vub_locks.specs.declared.records.Spent.{Spent}
use Rattle.vub_locks.specs.Comparing.{Agrees, OneForOne, DifferFirst}

-- what holds from place i on holds of the whole, since before it they agree
pub record AgreeBefore (ss : List Spent) (cs : List Served) (i : ℕ) : Type 0 where
  pub same : OneForOne (drop i ss) (drop i cs) → OneForOne ss cs
  pub apart : (used : Option Spent) (served : Option Served) → DifferFirst (drop i ss) (drop i cs) used served → DifferFirst ss cs used served

pub agree_at_first : (ss : List Spent) (cs : List Served) → AgreeBefore ss cs 0
agree_at_first ss cs = record { same = λ h. h; apart = λ u s h. h }

pub same_step : (ss : List Spent) (cs : List Served) (i : ℕ) (s : Spent) (c : Served) → i < length ss → i < length cs → s ≡ slice_index_or ss i s → c ≡ slice_index_or cs i c → Agrees s c → OneForOne (drop (suc i) ss) (drop (suc i) cs) → OneForOne (drop i ss) (drop i cs)
same_step [] cs i s c h k e f a r = absurd (omega arith)
same_step (x ∷ xs) [] i s c h k e f a r = absurd (omega arith)
same_step (x ∷ xs) (y ∷ ys) zero s c h k e f a r = (subst (λ (z : Spent). Agrees z y) e (subst (λ (z : Served). Agrees s z) f a), r)
same_step (x ∷ xs) (y ∷ ys) (suc i) s c h k e f a r = same_step xs ys i s c (omega arith) (omega arith) e f a r

apart_step : (ss : List Spent) (cs : List Served) (i : ℕ) (s : Spent) (c : Served) (used : Option Spent) (served : Option Served) → i < length ss → i < length cs → s ≡ slice_index_or ss i s → c ≡ slice_index_or cs i c → Agrees s c → DifferFirst (drop (suc i) ss) (drop (suc i) cs) used served → DifferFirst (drop i ss) (drop i cs) used served
apart_step [] cs i s c u v h k e f a r = absurd (omega arith)
apart_step (x ∷ xs) [] i s c u v h k e f a r = absurd (omega arith)
apart_step (x ∷ xs) (y ∷ ys) zero s c u v h k e f a r = inl (subst (λ (z : Spent). Agrees z y) e (subst (λ (z : Served). Agrees s z) f a), r)
apart_step (x ∷ xs) (y ∷ ys) (suc i) s c u v h k e f a r = apart_step xs ys i s c u v (omega arith) (omega arith) e f a r

apart_here : (ss : List Spent) (cs : List Served) (i : ℕ) (s : Spent) (c : Served) → i < length ss → i < length cs → s ≡ slice_index_or ss i s → c ≡ slice_index_or cs i c → ¬ (Agrees s c) → DifferFirst (drop i ss) (drop i cs) (slice_get ss i) (slice_get cs i)
apart_here [] cs i s c h k e f n = absurd (omega arith)
apart_here (x ∷ xs) [] i s c h k e f n = absurd (omega arith)
apart_here (x ∷ xs) (y ∷ ys) zero s c h k e f n = inr (subst (λ (z : Spent). ¬ (Agrees z y)) e (subst (λ (z : Served). ¬ (Agrees s z)) f n), refl, refl)
apart_here (x ∷ xs) (y ∷ ys) (suc i) s c h k e f n = apart_here xs ys i s c (omega arith) (omega arith) e f n

same_end : (ss : List Spent) (cs : List Served) (i : ℕ) → length ss ≡ length cs → length ss ≤ i → OneForOne (drop i ss) (drop i cs)
same_end [] [] zero e h = tt
same_end [] [] (suc i) e h = tt
same_end [] (y ∷ ys) i e h = absurd (omega arith)
same_end (x ∷ xs) [] i e h = absurd (omega arith)
same_end (x ∷ xs) (y ∷ ys) zero e h = absurd (omega arith)
same_end (x ∷ xs) (y ∷ ys) (suc i) e h = same_end xs ys i (omega arith) (omega arith)

apart_end : (ss : List Spent) (cs : List Served) (i : ℕ) → i ≡ min (length ss) (length cs) → (length ss ≡ length cs → ⊥) → DifferFirst (drop i ss) (drop i cs) (slice_get ss i) (slice_get cs i)
apart_end [] [] i e n = absurd (n refl)
apart_end [] (y ∷ ys) zero e n = (refl, refl)
apart_end [] (y ∷ ys) (suc i) e n = absurd (omega arith)
apart_end (x ∷ xs) [] zero e n = (refl, refl)
apart_end (x ∷ xs) [] (suc i) e n = absurd (omega arith)
apart_end (x ∷ xs) (y ∷ ys) zero e n = absurd (omega arith)
apart_end (x ∷ xs) (y ∷ ys) (suc i) e n = apart_end xs ys i (omega arith) (λ h. n (omega arith))

next : (i : ℕ) → suc i ≡ i + 1
next i = omega arith

pub agree_on : (ss : List Spent) (cs : List Served) (i : ℕ) (s : Spent) (c : Served) → i < length ss → i < length cs → s ≡ slice_index_or ss i s → c ≡ slice_index_or cs i c → Agrees s c → AgreeBefore ss cs i → AgreeBefore ss cs (i + 1)
agree_on ss cs i s c h k e f a b = subst (λ (n : ℕ). AgreeBefore ss cs n) (next i) (record {
  same = λ r. b.same (same_step ss cs i s c h k e f a r);
  apart = λ u v r. b.apart u v (apart_step ss cs i s c u v h k e f a r);
})

pub differ_here : (ss : List Spent) (cs : List Served) (i : ℕ) (s : Spent) (c : Served) → i < length ss → i < length cs → s ≡ slice_index_or ss i s → c ≡ slice_index_or cs i c → ¬ (Agrees s c) → AgreeBefore ss cs i → DifferFirst ss cs (slice_get ss i) (slice_get cs i)
differ_here ss cs i s c h k e f n b = b.apart (slice_get ss i) (slice_get cs i) (apart_here ss cs i s c h k e f n)

pub one_for_one : (ss : List Spent) (cs : List Served) (i : ℕ) → length ss ≡ length cs → length ss ≤ i → AgreeBefore ss cs i → OneForOne ss cs
one_for_one ss cs i e h b = b.same (same_end ss cs i e h)

pub one_is_longer : (ss : List Spent) (cs : List Served) (i : ℕ) → i ≡ min (length ss) (length cs) → (length ss ≡ length cs → ⊥) → AgreeBefore ss cs i → DifferFirst ss cs (slice_get ss i) (slice_get cs i)
one_is_longer ss cs i e n b = b.apart (slice_get ss i) (slice_get cs i) (apart_end ss cs i e n)
