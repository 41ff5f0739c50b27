-- A region as a request names it: `[start,len,user,offset]`. Its content is named beside it.
use Rattle.std.specs.Prelude.{List, [], ◌∷◌, Option, Some, None}
use Rattle.serde_json.specs.Data.{Data}
use Rattle.serde_json.specs.Find.{as_array}
use Rattle.vub_proto.specs.declared.request.Part.{Part}
use Rattle.vub_forms.specs.Reading.{◌>>=◌}
use Rattle.vub_forms.specs.Numbers.{number_of}
use Rattle.vub_forms.specs.Lists.{items_list}

abbrev pub part_numbers : Data → Data → Data → Data → Option Part
part_numbers a b c d = do
  start ← number_of a
  len ← number_of b
  user ← number_of c
  offset ← number_of d
  Some (record { start = start; len = len; user = user; offset = offset })

abbrev pub part_form : List Data → Option Part
part_form [] = None
part_form (a ∷ []) = None
part_form (a ∷ b ∷ []) = None
part_form (a ∷ b ∷ c ∷ []) = None
part_form (a ∷ b ∷ c ∷ d ∷ []) = part_numbers a b c d
part_form (a ∷ b ∷ c ∷ d ∷ e ∷ more) = None

unfoldable pub part_of : Data → Option Part
part_of d = as_array d >>= λ ds. part_form (items_list ds)
