-- Places of a list after a write and after a push.
use Rattle.std.proofs.Common.{◌≡◌, ◌≢◌, ℕ, suc, zero, ◌⊎◌, inl, inr, List, [], ◌∷◌, ◌++◌, length, set, Some, refl, ap}
use Rattle.std.proofs.Common.{slice_get}

module _ {X : Type 0} where
  pub get_set_other : (xs : List X) (i j : ℕ) (x : X) → j ≢ i → slice_get (set xs i x) j ≡ slice_get xs j
  get_set_other [] i j x ne = refl
  get_set_other (y ∷ xs) zero zero x ne = absurd (ne refl)
  get_set_other (y ∷ xs) zero (suc j) x ne = refl
  get_set_other (y ∷ xs) (suc i) zero x ne = refl
  get_set_other (y ∷ xs) (suc i) (suc j) x ne = get_set_other xs i j x (λ e. ne (ap (λ n. suc n) e))

  pub get_set_same : (xs : List X) (i : ℕ) (x y : X) → slice_get xs i ≡ Some y → slice_get (set xs i x) i ≡ Some x
  get_set_same [] i x y h = cc
  get_set_same (z ∷ xs) zero x y h = refl
  get_set_same (z ∷ xs) (suc i) x y h = get_set_same xs i x y h

  pub get_append : (xs ys : List X) (i : ℕ) (x : X) → slice_get xs i ≡ Some x → slice_get (xs ++ ys) i ≡ Some x
  get_append [] ys i x h = cc
  get_append (z ∷ xs) ys zero x h = h
  get_append (z ∷ xs) ys (suc i) x h = get_append xs ys i x h

  pub get_last : (xs : List X) (x : X) → slice_get (xs ++ x ∷ []) (length xs) ≡ Some x
  get_last [] x = refl
  get_last (z ∷ xs) x = get_last xs x

  pub get_append_one : (xs : List X) (y : X) (i : ℕ) (x : X) → slice_get (xs ++ y ∷ []) i ≡ Some x → (slice_get xs i ≡ Some x) ⊎ (x ≡ y)
  get_append_one [] y zero x h = inr cc
  get_append_one [] y (suc i) x h = cc
  get_append_one (z ∷ xs) y zero x h = inl h
  get_append_one (z ∷ xs) y (suc i) x h = get_append_one xs y i x h
