-- The names of one directory: a finite map from names to nodes, as a list in name order.
use Rattle.std.specs.Prelude.{ℕ, if◌then◌else◌, List, [], ◌∷◌, Option, Some, None}
use Rattle.std.specs.Ordering.{match_ordering, nat_cmp, is_eq}
use Rattle.std.specs.declared.cmp.Ordering.{Ordering}
use Rattle.std.specs.Cmp.Lexicographic.{slice_cmp}

-- a name, and the node that it names
pub record Entry : Type 0 where
  pub name : List ℕ
  pub node : ℕ

-- the order of names: byte by byte, and a name stands before those that begin with it
abbrev pub name_cmp : List ℕ → List ℕ → Ordering
name_cmp = slice_cmp nat_cmp

-- the node with this name
unfoldable pub find_name : List ℕ → List Entry → Option ℕ
find_name name [] = None
find_name name (e ∷ es) = if is_eq (name_cmp name e.name) then Some e.node else find_name name es

-- the names, with this one in its place among them
unfoldable pub put_name : List Entry → List ℕ → ℕ → List Entry
put_name [] name node = record { name = name; node = node } ∷ []
put_name (e ∷ es) name node =
    match_ordering (name_cmp name e.name)
    (record { name = name; node = node } ∷ e ∷ es)
    (record { name = e.name; node = node } ∷ es)
    (e ∷ put_name es name node)
