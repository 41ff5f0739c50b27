-- A number of a script: a JSON whole number from 0 to 2^64 - 1, or a text of `0x` and 1 to 16 lower-case hexadecimal
-- digits. (A JSON number with a point or an exponent, as 1.0, is none, and -0 is none.)
use Rattle.std.specs.Prelude.{ℕ, ◌^◌, ◌&&◌, ◌||◌, ◌==◌, nat_lt, nat_le, Bool, if◌then◌else◌, List, length, drop}
use Rattle.std.specs.Prelude.{slice_index, Option, Some, None}
use Rattle.std.specs.List.{list_all}
use Rattle.std.specs.Str.Parse.{digits_value}
use Rattle.serde_json.specs.Data.{Data, null, boolean, number, string, array, object}
use Rattle.serde_json.specs.Find.{as_u64}
use Rattle.vub_forms.specs.Reading.{◌>>=◌}

-- `0` to `9` and `a` to `f`
abbrev pub is_lower_hex : ℕ → Bool
is_lower_hex c = (nat_le 48 c && nat_le c 57) || (nat_le 97 c && nat_le c 102)

-- `0x` and 1 to 16 digits
abbrev pub is_hex_number : List ℕ → Bool
is_hex_number s =
    nat_le 3 (length s) && nat_le (length s) 18 && (slice_index s 0 == 48) && (slice_index s 1 == 120)
    && list_all is_lower_hex (drop 2 s)

unfoldable pub hex_number : List ℕ → Option ℕ
hex_number s = if is_hex_number s then Some (digits_value 16 (drop 2 s)) else None

abbrev pub number_of : Data → Option ℕ
number_of null = None
number_of (boolean b) = None
number_of (number n) = as_u64 n
number_of (string s) = hex_number s
number_of (array ds) = None
number_of (object ms) = None

-- numbers that fit a narrower field
abbrev pub u32_of : Data → Option ℕ
u32_of d = number_of d >>= λ n. if nat_lt n (2 ^ 32) then Some n else None

abbrev pub u16_of : Data → Option ℕ
u16_of d = number_of d >>= λ n. if nat_lt n (2 ^ 16) then Some n else None
