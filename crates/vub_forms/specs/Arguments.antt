-- The arguments of a request: as many as it wants, each in its form.
use Rattle.std.specs.Prelude.{List, [], ◌∷◌, Option, Some, None, ⊤}
use Rattle.serde_json.specs.Data.{Data}
use Rattle.vub_forms.specs.Reading.{◌>>=◌}

abbrev pub none : List Data → Option ⊤
none [] = Some tt
none (a ∷ more) = None

abbrev pub one : {A : Type 0} → (Data → Option A) → List Data → Option A
one f [] = None
one f (a ∷ []) = f a
one f (a ∷ b ∷ more) = None

abbrev pub two : {A B : Type 0} → (Data → Option A) → (Data → Option B) → List Data → Option (A × B)
two f g [] = None
two f g (a ∷ []) = None
two f g (a ∷ b ∷ []) = f a >>= λ x. g b >>= λ y. Some (x, y)
two f g (a ∷ b ∷ c ∷ more) = None

abbrev pub three : {A B C : Type 0} → (Data → Option A) → (Data → Option B) → (Data → Option C)
    → List Data → Option (A × B × C)
three f g h [] = None
three f g h (a ∷ []) = None
three f g h (a ∷ b ∷ []) = None
three f g h (a ∷ b ∷ c ∷ []) = f a >>= λ x. g b >>= λ y. h c >>= λ z. Some (x, y, z)
three f g h (a ∷ b ∷ c ∷ d ∷ more) = None

abbrev pub four : {A B C D : Type 0} → (Data → Option A) → (Data → Option B) → (Data → Option C)
    → (Data → Option D) → List Data → Option (A × B × C × D)
four f g h k [] = None
four f g h k (a ∷ []) = None
four f g h k (a ∷ b ∷ []) = None
four f g h k (a ∷ b ∷ c ∷ []) = None
four f g h k (a ∷ b ∷ c ∷ d ∷ []) = f a >>= λ x. g b >>= λ y. h c >>= λ z. k d >>= λ w. Some (x, y, z, w)
four f g h k (a ∷ b ∷ c ∷ d ∷ e ∷ more) = None

-- two, and a third that may be left out
abbrev pub two_or_three : {A B C : Type 0} → (Data → Option A) → (Data → Option B) → (Data → Option C)
    → List Data → Option (A × B × Option C)
two_or_three f g h [] = None
two_or_three f g h (a ∷ []) = None
two_or_three f g h (a ∷ b ∷ []) = f a >>= λ x. g b >>= λ y. Some (x, y, None)
two_or_three f g h (a ∷ b ∷ c ∷ []) = f a >>= λ x. g b >>= λ y. h c >>= λ z. Some (x, y, Some z)
two_or_three f g h (a ∷ b ∷ c ∷ d ∷ more) = None
