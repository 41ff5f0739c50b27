-- A pending set with one number more, by the place where it goes.
use Rattle.std.proofs.Common.{◌≡◌, ℕ, suc, ◌≤◌, true, false, nat_lt, if◌then◌else◌, List, [], ◌∷◌, length, insert, refl, arith}
use Rattle.std.proofs.lemmas.Bool.Decides.{nat_tests}
use Rattle.vub_model.specs.Shared.{with_number}
use Rattle.vub_ring.specs.Pending.{place_in, is_there}

pub place_within : (ms : List ℕ) (n : ℕ) → place_in ms n ≤ length ms
place_within [] n = omega arith
place_within (m ∷ ms) n =
    elim (nat_lt m n) as (λ b. (if b then suc (place_in ms n) else 0) ≤ suc (length ms)) [ true ↦ omega (arith, place_within ms n) | false ↦ omega arith ]

-- a number that stands at its place stays, and another one goes there
pub number_goes : (ms : List ℕ) (n : ℕ) → with_number ms n ≡ (if is_there ms n then ms else insert ms (place_in ms n) n)
number_goes [] n = refl
number_goes (m ∷ ms) n = grind (arith, nat_tests, number_goes ms n)
