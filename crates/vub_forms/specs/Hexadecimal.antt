-- Bytes of a script: a text of an even count of lower-case hexadecimal digits, two for each byte.
use Rattle.std.specs.Prelude.{ℕ, ◌+◌, ◌*◌, if◌then◌else◌, List, Option, Some, None, option_map}
use Rattle.std.specs.List.{list_all}
use Rattle.std.specs.Result.{result_ok}
use Rattle.hex.specs.Hex.{decode_of, hex_digit_value}
use Rattle.serde_json.specs.Data.{Data}
use Rattle.serde_json.specs.Find.{as_str}
use Rattle.vub_forms.specs.Reading.{◌>>=◌}
use Rattle.vub_forms.specs.Numbers.{is_lower_hex}

-- the value of a lower-case digit, and the byte of two of them
abbrev pub lower_value : ℕ → Option ℕ
lower_value c = if is_lower_hex c then hex_digit_value c else None

abbrev pub pair_byte : Option ℕ → Option ℕ → Option ℕ
pair_byte None low = None
pair_byte (Some h) low = option_map (λ l. h * 16 + l) low

abbrev pub lower_pair : ℕ → ℕ → Option ℕ
lower_pair high low = pair_byte (lower_value high) (lower_value low)

unfoldable pub hex_bytes : List ℕ → Option (List ℕ)
hex_bytes s = if list_all is_lower_hex s then result_ok (decode_of s) else None

abbrev pub bytes_of : Data → Option (List ℕ)
bytes_of d = as_str d >>= hex_bytes
