-- A list of parts: each element has to be one.
use Rattle.std.specs.Prelude.{List, [], ◌∷◌, Option, Some, option_map}
use Rattle.serde_json.specs.Data.{Data, Items, no_items, item}
use Rattle.serde_json.specs.Find.{as_array}
use Rattle.vub_forms.specs.Reading.{◌>>=◌}

abbrev pub items_list : Items → List Data
items_list no_items = []
items_list (item d ds) = d ∷ items_list ds

abbrev pub each : {A : Type 0} → (Data → Option A) → List Data → Option (List A)
each f [] = Some []
each f (d ∷ ds) = f d >>= λ x. option_map (λ xs. x ∷ xs) (each f ds)

abbrev pub list_of : {A : Type 0} → (Data → Option A) → Data → Option (List A)
list_of f d = as_array d >>= λ ds. each f (items_list ds)
