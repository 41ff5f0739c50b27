-- What the program's words ask for: none to play the script that is read, and `make` and a number from 0 to 100000 to
-- play the generated script with so many entries.
use Rattle.std.specs.Prelude.{ℕ, ◌≤◌, ◌&&◌, ◌==◌, not, nat_le, Bool, true, false, if◌then◌else◌, List, [], ◌∷◌}
use Rattle.std.specs.Prelude.{codes, Option, Some, None, option_map}
use Rattle.std.specs.List.{list_all}
use Rattle.std.specs.Str.{bytes_eq}
use Rattle.std.specs.Str.Parse.{digits_value}
use Rattle.vub_share.specs.declared.command.Command.{Command}
use Rattle.vub_share.specs.declared.command.Command.TheVariants.{Play, Make}

abbrev pub is_digit : ℕ → Bool
is_digit c = nat_le 48 c && nat_le c 57

abbrev pub begins_well : List ℕ → Bool
begins_well [] = false
begins_well (first ∷ []) = true
begins_well (first ∷ second ∷ more) = not (first == 48)

-- decimal digits, the first of which is no 0 unless it is the only one
abbrev pub is_decimal : List ℕ → Bool
is_decimal word = begins_well word && list_all is_digit word

abbrev pub within : ℕ → Option ℕ
within n = if nat_le n 100000 then Some n else None

unfoldable pub number_in : List ℕ → Option ℕ
number_in word = if is_decimal word then within (digits_value 10 word) else None

abbrev pub command_in : List (List ℕ) → Option Command
command_in [] = Some Play
command_in (first ∷ []) = None
command_in (first ∷ second ∷ []) =
    if bytes_eq first (codes "make") then option_map Make (number_in second) else None
command_in (first ∷ second ∷ third ∷ more) = None

-- at most 100000 entries are asked for
abbrev pub IsBounded : Command → Type 0
IsBounded Play = Unit {0}
IsBounded (Make count) = count ≤ 100000
