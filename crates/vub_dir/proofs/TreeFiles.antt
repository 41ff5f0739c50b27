-- What the tree of a list of entries has: the files of the list, and its names where they are listed.
use Rattle.std.proofs.Common.{◌≡◌, ◌∙◌, ℕ, ◌+◌, ◌-◌, ◌==◌, List, [], ◌∷◌, ◌++◌, Bool, true, false, cond, length, map}
use Rattle.std.proofs.Common.{Option, Some, None, refl, sym, ap, append_assoc, slice_get}
use Rattle.std.proofs.Math.Seq.{map-set_same}
use Rattle.std.proofs.lemmas.Option.{get_or_from_slice_get}
use Rattle.vub_dir.specs.declared.entry.TreeEntry.{TreeEntry}
use Rattle.vub_dir.specs.Node.{Node}
use Rattle.vub_dir.specs.declared.node.Node.TheVariants.{Directory, File}
use Rattle.vub_dir.specs.Tree.{node_at, put_child, with_node, named, name_in_node}
use Rattle.vub_dir.specs.Building.{new_node, with_entry, with_entries, content_of, tree_of}

-- a node that is there
found_if : (nodes : List Node) (n : ℕ) (node : Node) (b : Bool) → cond b None (slice_get nodes (n - 1)) ≡ Some node → slice_get nodes (n - 1) ≡ Some node
found_if nodes n node true h = cc
found_if nodes n node false h = h

found : (nodes : List Node) (n : ℕ) (node : Node) → node_at nodes n ≡ Some node → slice_get nodes (n - 1) ≡ Some node
unfolding node_at
found nodes n node h = found_if nodes n node (n == 0) h

content_named : (node : Node) (name : List ℕ) (child : ℕ) → content_of (name_in_node node name child) ≡ content_of node
content_named (Directory es) name child = refl
content_named (File bytes) name child = refl

put_contents_at : (nodes : List Node) (n : ℕ) (name : List ℕ) (child : ℕ) (r : Option Node) → node_at nodes n ≡ r → map content_of (with_node nodes n (named r name child)) ≡ map content_of nodes
put_contents_at nodes n name child None h = refl
put_contents_at nodes n name child (Some node) h =
    map-set_same content_of nodes (n - 1) (name_in_node node name child) node
    (content_named node name child ∙ ap content_of (sym (get_or_from_slice_get nodes (n - 1) node node (found nodes n node h))))

put_contents : (nodes : List Node) (n : ℕ) (name : List ℕ) (child : ℕ) → map content_of (put_child nodes n name child) ≡ map content_of nodes
unfolding put_child
put_contents nodes n name child = put_contents_at nodes n name child (node_at nodes n) refl

new_content : (file : Option (List ℕ)) → content_of (new_node file) ≡ file
new_content None = refl
new_content (Some bytes) = refl

map-append_one : (xs : List Node) (y : Node) (file : Option (List ℕ)) → content_of y ≡ file → map content_of (xs ++ y ∷ []) ≡ map content_of xs ++ file ∷ []
map-append_one [] y file h = ap (λ (f : Option (List ℕ)). f ∷ []) h
map-append_one (x ∷ xs) y file h = ap (λ (fs : List (Option (List ℕ))). content_of x ∷ fs) (map-append_one xs y file h)

entry_contents : (nodes : List Node) (e : TreeEntry) → map content_of (with_entry nodes e) ≡ map content_of nodes ++ e.file ∷ []
unfolding with_entry
entry_contents nodes e =
    map-append_one (put_child nodes e.parent e.name (length nodes + 1)) (new_node e.file) e.file (new_content e.file)
    ∙ ap (λ (fs : List (Option (List ℕ))). fs ++ e.file ∷ []) (put_contents nodes e.parent e.name (length nodes + 1))

append_nil : {A : Type 0} (xs : List A) → xs ≡ xs ++ []
append_nil [] = refl
append_nil (x ∷ xs) = ap (λ ys. x ∷ ys) (append_nil xs)

-- the nodes are those that stood, and then the files and directories of the entries
pub entries_contents : (nodes : List Node) (es : List TreeEntry) → map content_of (with_entries nodes es) ≡ map content_of nodes ++ map (λ e. e.file) es
unfolding with_entries
entries_contents nodes [] = append_nil (map content_of nodes)
entries_contents nodes (e ∷ es) =
    entries_contents (with_entry nodes e) es
    ∙ ap (λ (fs : List (Option (List ℕ))). fs ++ map (λ (x : TreeEntry). x.file) es) (entry_contents nodes e)
    ∙ append_assoc (map content_of nodes) (e.file ∷ []) (map (λ (x : TreeEntry). x.file) es)

-- the files and directories of the tree of a list of entries
pub tree_files : (entries : List TreeEntry) → map content_of (tree_of entries) ≡ None ∷ map (λ e. e.file) entries
unfolding tree_of
tree_files entries = entries_contents (Directory [] ∷ []) entries
