-- An object of the set-up: `{"event":flags}`, `{"bytes":length}`, `{"hex":HEX}` or `{"log":length}`.
use Rattle.std.specs.Prelude.{ℕ, if◌then◌else◌, List, codes, Option, Some, None, option_map}
use Rattle.std.specs.Str.{bytes_eq}
use Rattle.serde_json.specs.Data.{Data, Members, no_members, member}
use Rattle.serde_json.specs.Find.{as_object}
use Rattle.vub_script.specs.declared.draft.ObjectDraft.{ObjectDraft}
use Rattle.vub_script.specs.declared.draft.ObjectDraft.TheVariants.{Event, Zeros, Content, Log}
use Rattle.vub_forms.specs.Reading.{◌>>=◌}
use Rattle.vub_forms.specs.Numbers.{number_of, u32_of}
use Rattle.vub_forms.specs.Hexadecimal.{bytes_of}

-- one member, and no other
abbrev pub lone_member : Members → Option (List ℕ × Data)
lone_member no_members = None
lone_member (member k d no_members) = Some (k, d)
lone_member (member k d (member l e ms)) = None

abbrev pub object_form : List ℕ → Data → Option ObjectDraft
object_form k d =
    if bytes_eq k (codes "event") then option_map Event (u32_of d)
    else if bytes_eq k (codes "bytes") then option_map Zeros (number_of d)
    else if bytes_eq k (codes "hex") then option_map Content (bytes_of d)
    else if bytes_eq k (codes "log") then option_map Log (u32_of d)
    else None

unfoldable pub object_of : Data → Option ObjectDraft
object_of d = as_object d >>= λ ms. lone_member ms >>= λ m. object_form m.0 m.1
