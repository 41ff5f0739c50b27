-- A region of guest memory: `[start,len,user,offset,object]`.
use Rattle.std.specs.Prelude.{List, [], ◌∷◌, Option, Some, None}
use Rattle.serde_json.specs.Data.{Data}
use Rattle.serde_json.specs.Find.{as_array}
use Rattle.vub_model.specs.declared.setup.GivenRegion.{GivenRegion}
use Rattle.vub_forms.specs.Reading.{◌>>=◌}
use Rattle.vub_forms.specs.Numbers.{number_of, u32_of}
use Rattle.vub_forms.specs.Lists.{items_list}

abbrev pub region_parts : Data → Data → Data → Data → Data → Option GivenRegion
region_parts a b c d e = do
  start ← number_of a
  len ← number_of b
  user ← number_of c
  offset ← number_of d
  target ← u32_of e
  Some (record { start = start; len = len; user = user; offset = offset; object = target })

abbrev pub region_form : List Data → Option GivenRegion
region_form [] = None
region_form (a ∷ []) = None
region_form (a ∷ b ∷ []) = None
region_form (a ∷ b ∷ c ∷ []) = None
region_form (a ∷ b ∷ c ∷ d ∷ []) = None
region_form (a ∷ b ∷ c ∷ d ∷ e ∷ []) = region_parts a b c d e
region_form (a ∷ b ∷ c ∷ d ∷ e ∷ f ∷ more) = None

unfoldable pub region_of : Data → Option GivenRegion
region_of d = as_array d >>= λ ds. region_form (items_list ds)
