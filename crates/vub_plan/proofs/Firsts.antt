-- Whether there is a mapping.
use Rattle.std.proofs.Common.{◌≡◌, Bool, true, false, List, [], ◌∷◌, Option, Some, None, slice_get, refl}
use Rattle.vub_model.specs.Plans.{is_empty}

-- an empty list has no first element
pub none_there : {A : Type 0} (xs : List A) → slice_get xs 0 ≡ None → is_empty xs ≡ true
none_there [] is = refl
none_there (x ∷ xs) is = absurd cc

pub some_there : {A : Type 0} (xs : List A) (x : A) → slice_get xs 0 ≡ Some x → is_empty xs ≡ false
some_there [] x is = absurd cc
some_there (y ∷ ys) x is = refl
