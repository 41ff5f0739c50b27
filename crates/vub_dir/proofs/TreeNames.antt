-- Where the names of a list of entries stand in its tree.
use Rattle.std.proofs.Common.{◌≡◌, ◌∙◌, ◌≢◌, ℕ, suc, zero, ◌+◌, ◌-◌, ◌<◌, ◌==◌, ◌⊎◌, inl, inr, List, [], ◌∷◌, ◌++◌}
use Rattle.std.proofs.Common.{Bool, true, false, not, ◌||◌, cond, length, take, Option, Some, None, Result, Ok, is_ok}
use Rattle.std.proofs.Common.{nat_le, refl, sym, ap, subst, arith, slice_get, length-append}
use Rattle.std.proofs.lemmas.Bool.{eqb-true}
use Rattle.std.proofs.lemmas.List.{length-set}
use Rattle.std.specs.Option.{option_or}
use Rattle.std.specs.Ordering.{is_eq}
use Rattle.std.specs.declared.cmp.Ordering.{Ordering}
use Rattle.std.specs.declared.cmp.Ordering.TheVariants.{Less, Equal, Greater}
use Rattle.vub_dir.specs.declared.entry.TreeEntry.{TreeEntry}
use Rattle.vub_dir.specs.declared.entry.TreeError.{TreeError}
use Rattle.vub_dir.specs.declared.entry.TreeError.TheVariants.{Name, Twice, TooBig}
use Rattle.vub_dir.specs.Node.{Node}
use Rattle.vub_dir.specs.declared.node.Node.TheVariants.{Directory, File}
use Rattle.vub_dir.specs.Names.{Entry, name_cmp, find_name, put_name}
use Rattle.vub_dir.specs.Tree.{node_at, child_of, child_in_some, or_missing, names_in, names_of, put_child, with_node}
use Rattle.vub_dir.specs.Tree.{named, name_in_node}
use Rattle.vub_dir.specs.Building.{new_node, with_entry, with_entries, fault_of, fault_among, is_name, is_past, tree_of}
use Rattle.vub_dir.specs.Building.{first_fault, IsListed}
use Rattle.vub_dir.specs.declared.fuse.TheConstants.{GREATEST_COUNT}
use Rattle.vub_dir.proofs.Places.{get_set_other, get_set_same, get_append, get_append_one}
use Rattle.vub_dir.proofs.NameLaws.{same_name, find_put_same, find_put_other}

-- a node that is there
node_if : (b : Bool) (r : Option Node) (x : Node) → cond b None r ≡ Some x → r ≡ Some x
node_if true r x h = cc
node_if false r x h = h

pub place_of : (nodes : List Node) (n : ℕ) (x : Node) → node_at nodes n ≡ Some x → (0 < n) × (slice_get nodes (n - 1) ≡ Some x)
unfolding node_at
place_of nodes zero x h = cc
place_of nodes (suc k) x h = (omega arith, node_if (suc k == 0) (slice_get nodes (suc k - 1)) x h)

if_not : (b : Bool) (r s : Option Node) → (b ≡ true → ⊥) → s ≡ r → cond b None s ≡ r
if_not true r s never h = absurd (never refl)
if_not false r s never h = h

pub node_of_place : (nodes : List Node) (n : ℕ) (r : Option Node) → 0 < n → slice_get nodes (n - 1) ≡ r → node_at nodes n ≡ r
unfolding node_at
node_of_place nodes n r p h = if_not (n == 0) r (slice_get nodes (n - 1)) (λ e. let zero_is : n ≡ 0 = eqb-true n 0 e in omega arith) h

pub same_or_other : (m n : ℕ) → (m ≡ n) ⊎ (m ≢ n)
same_or_other zero zero = inl refl
same_or_other zero (suc n) = inr (λ e. omega arith)
same_or_other (suc m) zero = inr (λ e. omega arith)
same_or_other (suc m) (suc n) = elim (same_or_other m n) [ inl e ↦ inl (ap (λ k. suc k) e) | inr ne ↦ inr (λ e. ne (omega arith)) ]

-- a directory with a name
pub record Has (nodes : List Node) (p : ℕ) (q : List ℕ) (c : ℕ) : Type 0 where
  pub names : List Entry
  pub node : node_at nodes p ≡ Some (Directory names)
  pub finds : find_name q names ≡ Some c

missing : (o : Option ℕ) (c : ℕ) → or_missing o ≡ Ok c → o ≡ Some c
missing None c h = cc
missing (Some n) c h = cc

has_at : (nodes : List Node) (p : ℕ) (q : List ℕ) (c : ℕ) (r : Option Node) → node_at nodes p ≡ r → child_in_some r q ≡ Ok c → Has nodes p q c
has_at nodes p q c None e h = cc
has_at nodes p q c (Some (File bytes)) e h = cc
has_at nodes p q c (Some (Directory es)) e h = record { names = es; node = e; finds = missing (find_name q es) c h }

pub has : (nodes : List Node) (p : ℕ) (q : List ℕ) (c : ℕ) → child_of nodes p q ≡ Ok c → Has nodes p q c
unfolding child_of
has nodes p q c h = has_at nodes p q c (node_at nodes p) refl h

pub found_by : (nodes : List Node) (p : ℕ) (q : List ℕ) (c : ℕ) → Has nodes p q c → child_of nodes p q ≡ Ok c
unfolding child_of
found_by nodes p q c h = ap (λ (r : Option Node). child_in_some r q) h.node ∙ ap or_missing h.finds

-- a node other than the directory stays
put_other_at : (nodes : List Node) (n m : ℕ) (name : List ℕ) (child : ℕ) (r : Option Node) (x : Node) → node_at nodes n ≡ r → m ≢ n → 0 < m → slice_get nodes (m - 1) ≡ Some x
    → slice_get (with_node nodes n (named r name child)) (m - 1) ≡ Some x
put_other_at nodes n m name child None x e ne p h = h
put_other_at nodes n m name child (Some node) x e ne p h =
    let there : (0 < n) × (slice_get nodes (n - 1) ≡ Some node) = place_of nodes n node e in
    get_set_other nodes (n - 1) (m - 1) (name_in_node node name child) (λ same. ne (omega arith)) ∙ h

other_stays : (nodes : List Node) (n m : ℕ) (name : List ℕ) (child : ℕ) (ys : List Node) (x : Node) → m ≢ n → node_at nodes m ≡ Some x → node_at (put_child nodes n name child ++ ys) m ≡ Some x
unfolding put_child
other_stays nodes n m name child ys x ne h =
    let there : (0 < m) × (slice_get nodes (m - 1) ≡ Some x) = place_of nodes m x h in
    node_of_place (put_child nodes n name child ++ ys) m (Some x) there.0
    (get_append (put_child nodes n name child) ys (m - 1) x (put_other_at nodes n m name child (node_at nodes n) x refl ne there.0 there.1))

put_here_at : (nodes : List Node) (n : ℕ) (name : List ℕ) (child : ℕ) (r : Option Node) (x : Node) → r ≡ Some x → slice_get nodes (n - 1) ≡ Some x
    → slice_get (with_node nodes n (named r name child)) (n - 1) ≡ Some (name_in_node x name child)
put_here_at nodes n name child None x e h = cc
put_here_at nodes n name child (Some node) x e h =
    get_set_same nodes (n - 1) (name_in_node node name child) x h ∙ (let same : node ≡ x = cc in ap (λ (y : Node). Some (name_in_node y name child)) same)

directory_changes : (nodes : List Node) (n : ℕ) (name : List ℕ) (child : ℕ) (ys : List Node) (x : Node) → node_at nodes n ≡ Some x → node_at (put_child nodes n name child ++ ys) n ≡ Some (name_in_node x name child)
unfolding put_child
directory_changes nodes n name child ys x h =
    let there : (0 < n) × (slice_get nodes (n - 1) ≡ Some x) = place_of nodes n x h in
    node_of_place (put_child nodes n name child ++ ys) n (Some (name_in_node x name child)) there.0
    (get_append (put_child nodes n name child) ys (n - 1) (name_in_node x name child) (put_here_at nodes n name child (node_at nodes n) x h there.1))

-- the name of a new entry is found
pub finds_new : (nodes : List Node) (e : TreeEntry) (es : List Entry) → node_at nodes e.parent ≡ Some (Directory es) → child_of (with_entry nodes e) e.parent e.name ≡ Ok (length nodes + 1)
unfolding with_entry
finds_new nodes e es h =
    found_by (with_entry nodes e) e.parent e.name (length nodes + 1)
    (record {
      names = put_name es e.name (length nodes + 1);
      node = directory_changes nodes e.parent e.name (length nodes + 1) (new_node e.file ∷ []) (Directory es) h;
      finds = find_put_same es e.name (length nodes + 1);
    })

equal_if : (o : Ordering) → is_eq o ≡ true → o ≡ Equal
equal_if Less h = cc
equal_if Equal h = refl
equal_if Greater h = cc

-- an old name is found as before, where the new one isn't there yet
kept_here : (nodes : List Node) (e : TreeEntry) (q : List ℕ) (c : ℕ) (b : Bool) → is_eq (name_cmp q e.name) ≡ b → Has nodes e.parent q c → is_ok (child_of nodes e.parent e.name) ≡ false
    → Has (put_child nodes e.parent e.name (length nodes + 1) ++ new_node e.file ∷ []) e.parent q c
kept_here nodes e q c true eq h free =
    let same : q ≡ e.name = same_name q e.name (equal_if (name_cmp q e.name) eq) in
    let there : child_of nodes e.parent e.name ≡ Ok c = subst (λ (n : List ℕ). child_of nodes e.parent n ≡ Ok c) same (found_by nodes e.parent q c h) in
    let yes : is_ok (child_of nodes e.parent e.name) ≡ true = ap (λ (r : Result ℕ ℕ). is_ok r) there in
    cc
kept_here nodes e q c false eq h free =
    record {
      names = put_name h.names e.name (length nodes + 1);
      node = directory_changes nodes e.parent e.name (length nodes + 1) (new_node e.file ∷ []) (Directory h.names) h.node;
      finds = find_put_other h.names q e.name (length nodes + 1) eq ∙ h.finds;
    }

pub kept : (nodes : List Node) (e : TreeEntry) (p : ℕ) (q : List ℕ) (c : ℕ) → is_ok (child_of nodes e.parent e.name) ≡ false → Has nodes p q c → Has (with_entry nodes e) p q c
unfolding with_entry
kept nodes e p q c free h =
    elim (same_or_other p e.parent) [
      | inl same ↦ subst (λ (n : ℕ). Has (put_child nodes e.parent e.name (length nodes + 1) ++ new_node e.file ∷ []) n q c) (sym same)
          (kept_here nodes e q c (is_eq (name_cmp q e.name)) refl (subst (λ (n : ℕ). Has nodes n q c) same h) free)
      | inr ne ↦ record {
        names = h.names;
        node = other_stays nodes e.parent p e.name (length nodes + 1) (new_node e.file ∷ []) (Directory h.names) ne h.node;
        finds = h.finds;
      }
    ]

chain : (named there big : Bool) → cond named (Some Name) (cond there (Some Twice) (cond big (Some TooBig) None)) ≡ None → there ≡ false
chain true there big h = cc
chain false true big h = cc
chain false false big h = refl

free_of : (nodes : List Node) (depths : List ℕ) (e : TreeEntry) → fault_of nodes depths e ≡ None → is_ok (child_of nodes e.parent e.name) ≡ false
unfolding fault_of
free_of nodes depths e h =
    chain (not (is_name e.name)) (is_ok (child_of nodes e.parent e.name)) (nat_le GREATEST_COUNT (length nodes) || is_past depths e.parent e.file) h

neither : (a b : Option TreeError) → option_or a b ≡ None → (a ≡ None) × (b ≡ None)
neither None b h = (refl, h)
neither (Some x) b h = cc

pub first_free : (nodes : List Node) (depths : List ℕ) (e : TreeEntry) (es : List TreeEntry) → fault_among nodes depths (e ∷ es) ≡ None
    → (is_ok (child_of nodes e.parent e.name) ≡ false) × (more : List ℕ) × (fault_among (with_entry nodes e) more es ≡ None)
unfolding fault_among
first_free nodes depths e es h =
    let both : (fault_of nodes depths e ≡ None) × (fault_among (with_entry nodes e) _ es ≡ None) = neither (fault_of nodes depths e) _ h in
    (free_of nodes depths e both.0, _, both.1)

-- what a new node adds: no name
no_names : (file : Option (List ℕ)) (names : List Entry) → Directory names ≡ new_node file → names ≡ []
no_names None names h = cc
no_names (Some bytes) names h = cc

nothing : (q : List ℕ) (names : List Entry) (c : ℕ) → names ≡ [] → find_name q names ≡ Some c → ⊥
unfolding find_name
nothing q [] c e h = cc
nothing q (n ∷ names) c e h = cc

-- a name that is there is an old one, or that of the new entry
abbrev pub OldOrNew : List Node → TreeEntry → ℕ → List ℕ → ℕ → Type 0
OldOrNew nodes e p q c = Has nodes p q c ⊎ ((e.parent ≡ p) × (e.name ≡ q) × (c ≡ length nodes + 1))

put_stays_at : (nodes : List Node) (n m : ℕ) (name : List ℕ) (child : ℕ) (r : Option Node) (x : Node) → node_at nodes n ≡ r → m ≢ n → 0 < m → slice_get (with_node nodes n (named r name child)) (m - 1) ≡ Some x
    → slice_get nodes (m - 1) ≡ Some x
put_stays_at nodes n m name child None x e ne p h = h
put_stays_at nodes n m name child (Some node) x e ne p h =
    let there : (0 < n) × (slice_get nodes (n - 1) ≡ Some node) = place_of nodes n node e in
    sym (get_set_other nodes (n - 1) (m - 1) (name_in_node node name child) (λ same. ne (omega arith))) ∙ h

elsewhere : (nodes : List Node) (e : TreeEntry) (p : ℕ) (q : List ℕ) (c : ℕ) → p ≢ e.parent → Has (put_child nodes e.parent e.name (length nodes + 1) ++ new_node e.file ∷ []) p q c → OldOrNew nodes e p q c
unfolding put_child
elsewhere nodes e p q c ne h =
    let there : (0 < p) × (slice_get (put_child nodes e.parent e.name (length nodes + 1) ++ new_node e.file ∷ []) (p - 1) ≡ Some (Directory h.names)) =
    place_of (put_child nodes e.parent e.name (length nodes + 1) ++ new_node e.file ∷ []) p (Directory h.names) h.node in
    elim (get_append_one (put_child nodes e.parent e.name (length nodes + 1)) (new_node e.file) (p - 1) (Directory h.names) there.1) [
      | inl old ↦ inl (record {
        names = h.names;
        node = node_of_place nodes p (Some (Directory h.names)) there.0
            (put_stays_at nodes e.parent p e.name (length nodes + 1) (node_at nodes e.parent) (Directory h.names) refl ne there.0 old);
        finds = h.finds;
      })
      | inr new ↦ absurd (nothing q h.names c (no_names e.file h.names new) h.finds)
    ]

in_directory : (nodes : List Node) (e : TreeEntry) (q : List ℕ) (c : ℕ) (es : List Entry) (b : Bool) → node_at nodes e.parent ≡ Some (Directory es) → is_eq (name_cmp q e.name) ≡ b
    → find_name q (put_name es e.name (length nodes + 1)) ≡ Some c → OldOrNew nodes e e.parent q c
in_directory nodes e q c es true n eq h =
    let same : q ≡ e.name = same_name q e.name (equal_if (name_cmp q e.name) eq) in
    let here : find_name q (put_name es e.name (length nodes + 1)) ≡ Some (length nodes + 1) =
    subst (λ (k : List ℕ). find_name k (put_name es e.name (length nodes + 1)) ≡ Some (length nodes + 1)) (sym same) (find_put_same es e.name (length nodes + 1)) in
    let number : c ≡ length nodes + 1 = cc in
    inr (refl, sym same, number)
in_directory nodes e q c es false n eq h = inl (record { names = es; node = n; finds = sym (find_put_other es q e.name (length nodes + 1) eq) ∙ h })

absent : (nodes : List Node) (e : TreeEntry) (q : List ℕ) (c : ℕ) → node_at nodes e.parent ≡ None → Has (put_child nodes e.parent e.name (length nodes + 1) ++ new_node e.file ∷ []) e.parent q c
    → OldOrNew nodes e e.parent q c
unfolding put_child
absent nodes e q c n h =
    let same : put_child nodes e.parent e.name (length nodes + 1) ≡ nodes = ap (λ (r : Option Node). with_node nodes e.parent (named r e.name (length nodes + 1))) n in
    let stands : node_at (nodes ++ new_node e.file ∷ []) e.parent ≡ Some (Directory h.names) =
    subst (λ (ns : List Node). node_at (ns ++ new_node e.file ∷ []) e.parent ≡ Some (Directory h.names)) same h.node in
    let there : (0 < e.parent) × (slice_get (nodes ++ new_node e.file ∷ []) (e.parent - 1) ≡ Some (Directory h.names)) =
    place_of (nodes ++ new_node e.file ∷ []) e.parent (Directory h.names) stands in
    elim (get_append_one nodes (new_node e.file) (e.parent - 1) (Directory h.names) there.1) [
      | inl old ↦
          let known : node_at nodes e.parent ≡ Some (Directory h.names) = node_of_place nodes e.parent (Some (Directory h.names)) there.0 old in
          cc
      | inr new ↦ absurd (nothing q h.names c (no_names e.file h.names new) h.finds)
    ]

in_parent : (nodes : List Node) (e : TreeEntry) (q : List ℕ) (c : ℕ) (r : Option Node) → node_at nodes e.parent ≡ r → Has (put_child nodes e.parent e.name (length nodes + 1) ++ new_node e.file ∷ []) e.parent q c
    → OldOrNew nodes e e.parent q c
in_parent nodes e q c (Some (Directory es)) n h =
    let changed : node_at (put_child nodes e.parent e.name (length nodes + 1) ++ new_node e.file ∷ []) e.parent ≡ Some (Directory (put_name es e.name (length nodes + 1))) =
    directory_changes nodes e.parent e.name (length nodes + 1) (new_node e.file ∷ []) (Directory es) n in
    let both : Some (Directory h.names) ≡ Some (Directory (put_name es e.name (length nodes + 1))) = sym h.node ∙ changed in
    let same : h.names ≡ put_name es e.name (length nodes + 1) = cc in
    in_directory nodes e q c es (is_eq (name_cmp q e.name)) n refl (subst (λ (ns : List Entry). find_name q ns ≡ Some c) same h.finds)
in_parent nodes e q c (Some (File bytes)) n h =
    let changed : node_at (put_child nodes e.parent e.name (length nodes + 1) ++ new_node e.file ∷ []) e.parent ≡ Some (File bytes) =
    directory_changes nodes e.parent e.name (length nodes + 1) (new_node e.file ∷ []) (File bytes) n in
    let both : Some (Directory h.names) ≡ Some (File bytes) = sym h.node ∙ changed in
    cc
in_parent nodes e q c None n h = absent nodes e q c n h

pub old_or_new : (nodes : List Node) (e : TreeEntry) (p : ℕ) (q : List ℕ) (c : ℕ) → Has (with_entry nodes e) p q c → OldOrNew nodes e p q c
unfolding with_entry
old_or_new nodes e p q c h =
    elim (same_or_other p e.parent) [
      | inl same ↦ subst (λ (n : ℕ). OldOrNew nodes e n q c) (sym same)
          (in_parent nodes e q c (node_at nodes e.parent) refl
          (subst (λ (n : ℕ). Has (put_child nodes e.parent e.name (length nodes + 1) ++ new_node e.file ∷ []) n q c) same h))
      | inr ne ↦ elsewhere nodes e p q c ne h
    ]

put_length_at : (nodes : List Node) (n : ℕ) (name : List ℕ) (child : ℕ) (r : Option Node) → length (with_node nodes n (named r name child)) ≡ length nodes
put_length_at nodes n name child None = refl
put_length_at nodes n name child (Some node) = length-set nodes (n - 1) (name_in_node node name child)

pub entry_length : (nodes : List Node) (e : TreeEntry) → length (with_entry nodes e) ≡ length nodes + 1
unfolding with_entry put_child
entry_length nodes e =
    length-append (put_child nodes e.parent e.name (length nodes + 1)) (new_node e.file ∷ [])
    ∙ ap (λ (n : ℕ). n + 1) (put_length_at nodes e.parent e.name (length nodes + 1) (node_at nodes e.parent))

-- no name is lost
pub keep_all : (es : List TreeEntry) (nodes : List Node) (depths : List ℕ) (p : ℕ) (q : List ℕ) (c : ℕ) → fault_among nodes depths es ≡ None → Has nodes p q c → Has (with_entries nodes es) p q c
unfolding with_entries
keep_all [] nodes depths p q c free h = h
keep_all (e ∷ es) nodes depths p q c free h =
    let first : (is_ok (child_of nodes e.parent e.name) ≡ false) × (more : List ℕ) × (fault_among (with_entry nodes e) more es ≡ None) = first_free nodes depths e es free in
    keep_all es (with_entry nodes e) first.1 p q c first.2 (kept nodes e p q c first.0 h)

-- each entry is found under its name in its parent, if that is a directory
pub all_named : (es : List TreeEntry) (nodes : List Node) (depths : List ℕ) (i : ℕ) (e : TreeEntry) (names : List Entry) → fault_among nodes depths es ≡ None → slice_get es i ≡ Some e
    → node_at (with_entries nodes (take i es)) e.parent ≡ Some (Directory names) → child_of (with_entries nodes es) e.parent e.name ≡ Ok (length nodes + 1 + i)
unfolding with_entries
all_named [] nodes depths i e names free at there = cc
all_named (x ∷ es) nodes depths zero e names free at there =
    let same : x ≡ e = cc in
    let first : (is_ok (child_of nodes x.parent x.name) ≡ false) × (more : List ℕ) × (fault_among (with_entry nodes x) more es ≡ None) = first_free nodes depths x es free in
    let new : child_of (with_entry nodes e) e.parent e.name ≡ Ok (length nodes + 1) = finds_new nodes e names there in
    let new_x : Has (with_entry nodes x) e.parent e.name (length nodes + 1) =
    subst (λ (y : TreeEntry). Has (with_entry nodes y) e.parent e.name (length nodes + 1)) (sym same) (has (with_entry nodes e) e.parent e.name (length nodes + 1) new) in
    found_by (with_entries (with_entry nodes x) es) e.parent e.name (length nodes + 1) (keep_all es (with_entry nodes x) first.1 e.parent e.name (length nodes + 1) first.2 new_x)
    ∙ ap (λ (n : ℕ). Ok n) (let sum : length nodes + 1 ≡ length nodes + 1 + zero = omega arith in sum)
all_named (x ∷ es) nodes depths (suc i) e names free at there =
    let first : (is_ok (child_of nodes x.parent x.name) ≡ false) × (more : List ℕ) × (fault_among (with_entry nodes x) more es ≡ None) = first_free nodes depths x es free in
    all_named es (with_entry nodes x) first.1 i e names first.2 at there
    ∙ ap (λ (n : ℕ). Ok n) (let sum : length (with_entry nodes x) + 1 + i ≡ length nodes + 1 + suc i = omega (arith, entry_length nodes x) in sum)

-- the place of an entry that has this name in this parent
pub record At (es : List TreeEntry) (first p : ℕ) (q : List ℕ) (c : ℕ) : Type 0 where
  pub place : ℕ
  pub entry : TreeEntry
  pub at : slice_get es place ≡ Some entry
  pub parent : entry.parent ≡ p
  pub name : entry.name ≡ q
  pub node : c ≡ first + place

-- each name is an old one, or that of an entry
pub only_these : (es : List TreeEntry) (nodes : List Node) (p : ℕ) (q : List ℕ) (c : ℕ) → Has (with_entries nodes es) p q c → Has nodes p q c ⊎ At es (length nodes + 1) p q c
unfolding with_entries
only_these [] nodes p q c h = inl h
only_these (e ∷ es) nodes p q c h =
    elim (only_these es (with_entry nodes e) p q c h) [
      | inl there ↦ elim (old_or_new nodes e p q c there) [
        | inl old ↦ inl old
        | inr new ↦ inr (record { place = zero; entry = e; at = refl; parent = new.0; name = new.1; node = (let sum : c ≡ length nodes + 1 + zero = omega (arith, new.2) in sum) })
      ]
      | inr later ↦ inr (record {
        place = suc later.place;
        entry = later.entry;
        at = later.at;
        parent = later.parent;
        name = later.name;
        node = (let sum : c ≡ length nodes + 1 + suc later.place = omega (arith, later.node, entry_length nodes e) in sum);
      })
    ]

-- the same of the tree of a list of entries
names_there : (r : Option Node) (names : List Entry) → names_in r ≡ Ok names → r ≡ Some (Directory names)
names_there None names h = cc
names_there (Some (File bytes)) names h = cc
names_there (Some (Directory es)) names h = cc

directory_there : (nodes : List Node) (n : ℕ) (names : List Entry) → names_of nodes n ≡ Ok names → node_at nodes n ≡ Some (Directory names)
unfolding names_of
directory_there nodes n names h = names_there (node_at nodes n) names h

-- the tree of no entries
abbrev root : List Node
root = Directory [] ∷ []

pub tree_named : (entries : List TreeEntry) (i : ℕ) (e : TreeEntry) (names : List Entry) → first_fault entries ≡ None → slice_get entries i ≡ Some e
    → names_of (tree_of (take i entries)) e.parent ≡ Ok names → child_of (tree_of entries) e.parent e.name ≡ Ok (i + 2)
unfolding tree_of first_fault
tree_named entries i e names free at there =
    all_named entries root (0 ∷ []) i e names free at (directory_there (with_entries root (take i entries)) e.parent names there)
    ∙ ap (λ (n : ℕ). Ok n) (let sum : length root + 1 + i ≡ i + 2 = omega arith in sum)

root_place : (k : ℕ) (names : List Entry) → slice_get root k ≡ Some (Directory names) → names ≡ []
root_place zero names h = cc
root_place (suc k) names h = cc

root_empty : (p : ℕ) (q : List ℕ) (c : ℕ) → Has root p q c → ⊥
root_empty p q c h = nothing q h.names c (root_place (p - 1) h.names (place_of root p (Directory h.names) h.node).1) h.finds

listed_at : (entries : List TreeEntry) (p : ℕ) (q : List ℕ) (c : ℕ) → At entries (length root + 1) p q c → IsListed entries p q c
listed_at entries p q c h =
    record {
      place = h.place;
      entry = h.entry;
      stands = h.at;
      in_parent = h.parent;
      has_name = h.name;
      is_node = (let sum : c ≡ h.place + 2 = omega (arith, h.node) in sum);
    }

pub tree_only : (entries : List TreeEntry) (p : ℕ) (q : List ℕ) (c : ℕ) → child_of (tree_of entries) p q ≡ Ok c → IsListed entries p q c
unfolding tree_of
tree_only entries p q c h =
    elim (only_these entries root p q c (has (with_entries root entries) p q c h)) [
      | inl old ↦ absurd (root_empty p q c old)
      | inr there ↦ listed_at entries p q c there
    ]
