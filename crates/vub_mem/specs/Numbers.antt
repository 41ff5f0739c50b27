-- The places of contents by their numbers.
use Rattle.std.specs.Prelude.{◌≡◌, ℕ, List}
use Rattle.std.specs.BTreeMap.{BTreeMap, get}
use Rattle.std.specs.List.{position}
use Rattle.std.specs.Ordering.{nat_cmp}
use Rattle.vub_mem.specs.declared.content.Content.{Content}
use Rattle.vub_mem.specs.Place.{is_numbered}

-- the map has for each number the place of its content, if there is one
abbrev pub IsIndexed : List Content → BTreeMap ℕ ℕ → Type 0
IsIndexed cs places = (o : ℕ) → get nat_cmp places o ≡ position (λ c. is_numbered c o) cs
