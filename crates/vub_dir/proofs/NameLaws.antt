-- Looking up a name after a name was put into a directory, and into the tree.
use Rattle.std.proofs.Common.{◌≡◌, ◌∙◌, ℕ, List, [], ◌∷◌, Bool, true, false, cond, Option, Some, refl, sym, ap, subst}
use Rattle.std.specs.Ordering.{match_ordering, is_eq, ordering_reverse}
use Rattle.std.specs.declared.cmp.Ordering.{Ordering}
use Rattle.std.specs.declared.cmp.Ordering.TheVariants.{Less, Equal, Greater}
use Rattle.std.specs.Cmp.Lexicographic.{nat_list_cmp_total}
use Rattle.std.specs.FinMap.{slice_cmp-IsAntisymmetric, nat_cmp-IsAntisymmetric}
use Rattle.vub_dir.specs.Names.{Entry, name_cmp, find_name, put_name}

turned : (o : Ordering) → o ≡ ordering_reverse o → o ≡ Equal
turned Less h = cc
turned Equal h = refl
turned Greater h = cc

-- a name is equal to itself
self_cmp : (name : List ℕ) → name_cmp name name ≡ Equal
self_cmp name = turned (name_cmp name name) (nat_list_cmp_total.antisymm name name)

-- and to no other
pub same_name : (a b : List ℕ) → name_cmp a b ≡ Equal → a ≡ b
same_name a b h = slice_cmp-IsAntisymmetric nat_cmp-IsAntisymmetric a b h

hit : (b : Bool) (x y : Option ℕ) → b ≡ true → cond b x y ≡ x
hit true x y h = refl
hit false x y h = cc

miss : (b : Bool) (x y : Option ℕ) → b ≡ false → cond b x y ≡ y
miss true x y h = cc
miss false x y h = refl

abbrev entry : List ℕ → ℕ → Entry
entry name node = record { name = name; node = node }

first_hit : (name key : List ℕ) (node : ℕ) (es : List Entry) → name_cmp name key ≡ Equal → find_name name (entry key node ∷ es) ≡ Some node
unfolding find_name
first_hit name key node es h = hit (is_eq (name_cmp name key)) (Some node) (find_name name es) (ap is_eq h)

first_miss : (name : List ℕ) (e : Entry) (es : List Entry) → is_eq (name_cmp name e.name) ≡ false → find_name name (e ∷ es) ≡ find_name name es
unfolding find_name
first_miss name e es h = miss (is_eq (name_cmp name e.name)) (Some e.node) (find_name name es) h

put_same_at : (name : List ℕ) (node : ℕ) (e : Entry) (es rest : List Entry) (o : Ordering) → name_cmp name e.name ≡ o → find_name name rest ≡ Some node
    → find_name name (match_ordering o (entry name node ∷ e ∷ es) (entry e.name node ∷ es) (e ∷ rest)) ≡ Some node
put_same_at name node e es rest Less h r = first_hit name name node (e ∷ es) (self_cmp name)
put_same_at name node e es rest Equal h r = first_hit name e.name node es h
put_same_at name node e es rest Greater h r = first_miss name e rest (ap is_eq h) ∙ r

-- a name that was put is found
pub find_put_same : (es : List Entry) (name : List ℕ) (node : ℕ) → find_name name (put_name es name node) ≡ Some node
unfolding put_name
find_put_same [] name node = first_hit name name node [] (self_cmp name)
find_put_same (e ∷ es) name node = put_same_at name node e es (put_name es name node) (name_cmp name e.name) refl (find_put_same es name node)

first_more : (q : List ℕ) (e : Entry) (xs ys : List Entry) → find_name q xs ≡ find_name q ys → find_name q (e ∷ xs) ≡ find_name q (e ∷ ys)
unfolding find_name
first_more q e xs ys h = ap (λ (r : Option ℕ). cond (is_eq (name_cmp q e.name)) (Some e.node) r) h

put_other_at : (q name : List ℕ) (node : ℕ) (e : Entry) (es rest : List Entry) (o : Ordering) → is_eq (name_cmp q name) ≡ false → name_cmp name e.name ≡ o → find_name q rest ≡ find_name q es
    → find_name q (match_ordering o (entry name node ∷ e ∷ es) (entry e.name node ∷ es) (e ∷ rest)) ≡ find_name q (e ∷ es)
put_other_at q name node e es rest Less n h r = first_miss q (entry name node) (e ∷ es) n
put_other_at q name node e es rest Equal n h r =
    let there : is_eq (name_cmp q e.name) ≡ false = subst (λ (k : List ℕ). is_eq (name_cmp q k) ≡ false) (same_name name e.name h) n in
    first_miss q (entry e.name node) es there ∙ sym (first_miss q e es there)
put_other_at q name node e es rest Greater n h r = first_more q e rest es r

-- another name is found as before
pub find_put_other : (es : List Entry) (q name : List ℕ) (node : ℕ) → is_eq (name_cmp q name) ≡ false → find_name q (put_name es name node) ≡ find_name q es
unfolding put_name
find_put_other [] q name node n = first_miss q (entry name node) [] n
find_put_other (e ∷ es) q name node n = put_other_at q name node e es (put_name es name node) (name_cmp name e.name) n refl (find_put_other es q name node n)
