-- A list whose elements are changed one after the other.
use Rattle.std.proofs.Common.{ℕ, zero, suc, ◌+◌, ◌<◌, ◌≤◌, ◌≡◌, List, [], ◌∷◌, ◌++◌, length, map, take, drop, get_or, set, refl, ap, arith}
use Rattle.vub_event.specs.declared.member.Member.{Member}

-- the first `i` lists are changed
abbrev pub changed_to : (List Member → List Member) → ℕ → List (List Member) → List (List Member)
changed_to f i xs = map f (take i xs) ++ drop i xs

pub changed-more : (f : List Member → List Member) (i : ℕ) (xs : List (List Member)) (d : List Member) → i < length xs
    → set (changed_to f i xs) i (f (get_or (changed_to f i xs) i d)) ≡ changed_to f (i + 1) xs
changed-more f i [] d lt = absurd (omega arith)
changed-more f zero (x ∷ xs) d lt = refl
changed-more f (suc i) (x ∷ xs) d lt =
    let step : suc i + 1 ≡ suc (i + 1) = omega arith in
    rw step (ap (λ (l : List (List Member)). f x ∷ l) (changed-more f i xs d (omega arith)))

pub changed-all : (f : List Member → List Member) (i : ℕ) (xs : List (List Member)) → length xs ≤ i → changed_to f i xs ≡ map f xs
changed-all f zero [] le = refl
changed-all f (suc i) [] le = refl
changed-all f zero (x ∷ xs) le = absurd (omega arith)
changed-all f (suc i) (x ∷ xs) le = ap (λ (l : List (List Member)). f x ∷ l) (changed-all f i xs (omega arith))
