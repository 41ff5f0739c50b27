-- What the program's words ask for: a number of workers from 1 to 8, and a number of entries on each queue from 1 to
-- 256.
use Rattle.std.specs.Prelude.{ℕ, ◌&&◌, ◌==◌, not, nat_le, Bool, true, false, if◌then◌else◌, List, [], ◌∷◌}
use Rattle.std.specs.Prelude.{Option, Some, None}
use Rattle.std.specs.List.{list_all}
use Rattle.std.specs.Str.Parse.{digits_value}
use Rattle.vub_live.specs.declared.words.Asked.{Asked}

abbrev pub is_digit : ℕ → Bool
is_digit c = nat_le 48 c && nat_le c 57

abbrev pub begins_well : List ℕ → Bool
begins_well [] = false
begins_well (first ∷ more) = not (first == 48)

-- decimal digits, the first of which is no 0
abbrev pub is_decimal : List ℕ → Bool
is_decimal word = begins_well word && list_all is_digit word

abbrev pub within : ℕ → ℕ → Option ℕ
within most n = if nat_le n most then Some n else None

unfoldable pub number_in : ℕ → List ℕ → Option ℕ
number_in most word = if is_decimal word then within most (digits_value 10 word) else None

abbrev pub asked_by : Option ℕ → Option ℕ → Option Asked
asked_by None entries = None
asked_by (Some workers) None = None
asked_by (Some workers) (Some entries) = Some (record { workers = workers; entries = entries })

abbrev pub asked : List (List ℕ) → Option Asked
asked [] = None
asked (first ∷ []) = None
asked (first ∷ second ∷ []) = asked_by (number_in 8 first) (number_in 256 second)
asked (first ∷ second ∷ third ∷ more) = None
