-- Truth values, parts that may be null, and fixed words.
use Rattle.std.specs.Prelude.{ℕ, Bool, false, List, Option, Some, None}
use Rattle.std.specs.Str.{bytes_eq}
use Rattle.serde_json.specs.Data.{Data, null, boolean, number, string, array, object}
use Rattle.serde_json.specs.Find.{as_bool}
use Rattle.vub_forms.specs.Reading.{◌>>=◌}

abbrev pub bool_of : Data → Option Bool
bool_of d = as_bool d

-- the part, or null for none
abbrev pub or_null : {A : Type 0} → (Data → Option A) → Data → Option (Option A)
or_null f null = Some None
or_null f (boolean b) = f (boolean b) >>= λ x. Some (Some x)
or_null f (number n) = f (number n) >>= λ x. Some (Some x)
or_null f (string s) = f (string s) >>= λ x. Some (Some x)
or_null f (array ds) = f (array ds) >>= λ x. Some (Some x)
or_null f (object ms) = f (object ms) >>= λ x. Some (Some x)

-- whether a tree is this text
abbrev pub is_text : Data → List ℕ → Bool
is_text null text = false
is_text (boolean b) text = false
is_text (number n) text = false
is_text (string s) text = bytes_eq s text
is_text (array ds) text = false
is_text (object ms) text = false
