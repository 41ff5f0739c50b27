-- The tree of a list of entries, and what refuses a list.
use Rattle.std.specs.Prelude.{◌≡◌, ℕ, ◌+◌, ◌-◌, ◌==◌, Bool, false, not, ◌&&◌, ◌||◌, nat_le, nat_lt, if◌then◌else◌, List}
use Rattle.std.specs.Prelude.{[], ◌∷◌, ◌++◌, length, Option, Some, None, is_ok, slice_get, slice_index}
use Rattle.std.specs.List.{list_all}
use Rattle.std.specs.Option.{option_or}
use Rattle.vub_dir.specs.declared.fuse.TheConstants.{GREATEST_FILE, GREATEST_COUNT, GREATEST_DEPTH, GREATEST_NAME}
use Rattle.vub_dir.specs.declared.entry.TreeEntry.{TreeEntry}
use Rattle.vub_dir.specs.declared.entry.TreeError.{TreeError}
use Rattle.vub_dir.specs.declared.entry.TreeError.TheVariants.{Name, Twice, TooBig}
use Rattle.vub_dir.specs.Node.{Node}
use Rattle.vub_dir.specs.declared.node.Node.TheVariants.{Directory, File}
use Rattle.vub_dir.specs.Tree.{child_of, put_child}

-- the names "." and ".."
abbrev pub is_dots : List ℕ → Bool
is_dots [] = false
is_dots (a ∷ []) = a == 46
is_dots (a ∷ b ∷ []) = a == 46 && b == 46
is_dots (a ∷ b ∷ c ∷ more) = false

-- 1 to 255 bytes
abbrev pub is_name_length : List ℕ → Bool
is_name_length name = not (length name == 0) && nat_le (length name) GREATEST_NAME

-- no zero byte, and no "/"
abbrev pub are_name_bytes : List ℕ → Bool
are_name_bytes name = list_all (λ b. not (b == 0) && not (b == 47)) name

-- what may be a name
unfoldable pub is_name : List ℕ → Bool
is_name name = is_name_length name && are_name_bytes name && not (is_dots name)

-- how deep the node n lies; what is no node is at depth 0
abbrev pub depth_at : List ℕ → ℕ → ℕ
depth_at depths n = if n == 0 then 0 else slice_index depths (n - 1)

-- how deep an entry is: one deeper than the directory that it is in. The depth of a file is not asked for, and counts
-- as 0
abbrev pub depth_in : List ℕ → ℕ → Option (List ℕ) → ℕ
depth_in depths parent (Some bytes) = 0
depth_in depths parent None = depth_at depths parent + 1

abbrev pub depth_of : List ℕ → TreeEntry → ℕ
depth_of depths e = depth_in depths e.parent e.file

-- a file with too many bytes, or a directory that is too deep
abbrev pub is_past : List ℕ → ℕ → Option (List ℕ) → Bool
is_past depths parent (Some bytes) = nat_lt GREATEST_FILE (length bytes)
is_past depths parent None = nat_le GREATEST_DEPTH (depth_at depths parent)

-- why the entry can't join the nodes that stand, if it can't
unfoldable pub fault_of : List Node → List ℕ → TreeEntry → Option TreeError
fault_of nodes depths e =
    if not (is_name e.name) then Some Name else
    if is_ok (child_of nodes e.parent e.name) then Some Twice else
    if nat_le GREATEST_COUNT (length nodes) || is_past depths e.parent e.file then Some TooBig else
    None

-- a file with these bytes, or a directory with nothing in it
abbrev pub new_node : Option (List ℕ) → Node
new_node (Some bytes) = File bytes
new_node None = Directory []

-- the bytes of a node that is a file
abbrev pub content_of : Node → Option (List ℕ)
content_of (Directory es) = None
content_of (File bytes) = Some bytes

-- the nodes with this entry: the last of them, and a name in its parent
unfoldable pub with_entry : List Node → TreeEntry → List Node
with_entry nodes e = put_child nodes e.parent e.name (length nodes + 1) ++ new_node e.file ∷ []

-- the nodes with these entries, one after the other
unfoldable pub with_entries : List Node → List TreeEntry → List Node
with_entries nodes [] = nodes
with_entries nodes (e ∷ es) = with_entries (with_entry nodes e) es

-- why the first entry that can't join can't, if there is one
unfoldable pub fault_among : List Node → List ℕ → List TreeEntry → Option TreeError
fault_among nodes depths [] = None
fault_among nodes depths (e ∷ es) =
    option_or (fault_of nodes depths e) (fault_among (with_entry nodes e) (depths ++ depth_of depths e ∷ []) es)

-- the tree of a list of entries
unfoldable pub tree_of : List TreeEntry → List Node
tree_of entries = with_entries (Directory [] ∷ []) entries

-- why there is no tree of a list of entries, if there is none
unfoldable pub first_fault : List TreeEntry → Option TreeError
first_fault entries = fault_among (Directory [] ∷ []) (0 ∷ []) entries

-- an entry of the list has this name in this parent, and is this node
pub record IsListed (entries : List TreeEntry) (parent : ℕ) (name : List ℕ) (node : ℕ) : Type 0 where
  pub place : ℕ
  pub entry : TreeEntry
  pub stands : slice_get entries place ≡ Some entry
  pub in_parent : entry.parent ≡ parent
  pub has_name : entry.name ≡ name
  pub is_node : node ≡ place + 2
