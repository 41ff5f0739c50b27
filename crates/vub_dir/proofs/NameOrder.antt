-- A map from names to nodes, seen as a list in name order.
use Rattle.std.proofs.Common.{◌≡◌, ℕ, cond, List, [], ◌∷◌, ◌++◌, Bool, true, false, map, Some, nat_eq, refl, ap, ◌∙◌}
use Rattle.std.specs.List.{AllByRecursion}
use Rattle.std.specs.List.Sorted.{IsStrictlySortedBy}
use Rattle.std.specs.Ordering.{match_ordering, nat_cmp, is_eq, ordering_reverse}
use Rattle.std.specs.declared.cmp.Ordering.{Ordering}
use Rattle.std.specs.declared.cmp.Ordering.TheVariants.{Less, Equal, Greater}
use Rattle.std.specs.Cmp.Lexicographic.{slice_cmp, pointwise, texts_ties, nat_list_cmp_total}
use Rattle.std.specs.Map.{keys_of, lookup}
use Rattle.std.specs.BTreeMap.{insert_entry}
use Rattle.indexmap.specs.IndexMap.{insert_entry as append_entry}
use Rattle.vub_dir.specs.Names.{Entry, find_name, put_name}

-- an entry of the map, as the list has it
abbrev pub entry_of : {K : Type 0} → (K → List ℕ) → K × ℕ → Entry
entry_of bytes e = record { name = bytes e.0; node = e.1 }

pub find_listed : {K : Type 0} (bytes : K → List ℕ) (name : List ℕ) (es : List (K × ℕ)) → lookup (λ k. is_eq (slice_cmp nat_cmp name (bytes k))) es ≡ find_name name (map (entry_of bytes) es)
unfolding find_name
find_listed bytes name [] = refl
find_listed bytes name (e ∷ es) = ap (cond (is_eq (slice_cmp nat_cmp name (bytes e.0))) (Some e.1)) (find_listed bytes name es)

put_at : {K : Type 0} (bytes : K → List ℕ) (k : K) (v : ℕ) (e : K × ℕ) (es : List (K × ℕ)) (rest : List (K × ℕ)) (o : Ordering)
    → map (entry_of bytes) (match_ordering o ((k, v) ∷ e ∷ es) ((e.0, v) ∷ es) (e ∷ rest))
    ≡ match_ordering o (entry_of bytes (k, v) ∷ entry_of bytes e ∷ map (entry_of bytes) es) (entry_of bytes (e.0, v) ∷ map (entry_of bytes) es) (entry_of bytes e ∷ map (entry_of bytes) rest)
put_at bytes k v e es rest Less = refl
put_at bytes k v e es rest Equal = refl
put_at bytes k v e es rest Greater = refl

pub put_listed : {K : Type 0} (bytes : K → List ℕ) (es : List (K × ℕ)) (k : K) (v : ℕ) → map (entry_of bytes) (insert_entry (λ a b. slice_cmp nat_cmp (bytes a) (bytes b)) es k v) ≡ put_name (map (entry_of bytes) es) (bytes k) v
unfolding put_name
put_listed bytes [] k v = refl
put_listed bytes (e ∷ es) k v =
    put_at bytes k v e es (insert_entry (λ a b. slice_cmp nat_cmp (bytes a) (bytes b)) es k v) (slice_cmp nat_cmp (bytes k) (bytes e.0))
    ∙ ap (λ r. match_ordering (slice_cmp nat_cmp (bytes k) (bytes e.0)) (entry_of bytes (k, v) ∷ entry_of bytes e ∷ map (entry_of bytes) es) (entry_of bytes (e.0, v) ∷ map (entry_of bytes) es) (entry_of bytes e ∷ r)) (put_listed bytes es k v)

-- the same of a map that compares its keys for equality alone
pub find_indexed : {K : Type 0} (bytes : K → List ℕ) (name : List ℕ) (es : List (K × ℕ)) → lookup (λ k. pointwise nat_eq name (bytes k)) es ≡ find_name name (map (entry_of bytes) es)
unfolding find_name
find_indexed bytes name [] = refl
find_indexed bytes name (e ∷ es) = λ i. cond (texts_ties name (bytes e.0) i) (Some e.1) (find_indexed bytes name es i)

-- where keys rise, the next one is none of those before it
module _ {K : Type 0} (bytes : K → List ℕ) where
  abbrev below : K → K → Type 0
  below a b = slice_cmp nat_cmp (bytes a) (bytes b) ≡ Less

  below_next : (a : K) (es rest : List (K × ℕ)) (k : K) (v : ℕ) → AllByRecursion (below a) (keys_of (es ++ (k, v) ∷ rest)) → below a k
  below_next a [] rest k v h = h.0
  below_next a (e ∷ es) rest k v h = below_next a es rest k v h.1

  other : (a b : K) → below a b → pointwise nat_eq (bytes b) (bytes a) ≡ false
  other a b h = texts_ties (bytes b) (bytes a) ∙ ap is_eq (nat_list_cmp_total.antisymm (bytes b) (bytes a) ∙ ap ordering_reverse h)

  miss : (c : Bool) (xs ys : List (K × ℕ)) → c ≡ false → cond c xs ys ≡ ys
  miss true xs ys h = cc
  miss false xs ys h = refl

  -- so a map in the order of insertion puts it last
  pub append_next : (es rest : List (K × ℕ)) (k : K) (v : ℕ) → IsStrictlySortedBy (λ a b. slice_cmp nat_cmp (bytes a) (bytes b)) (keys_of (es ++ (k, v) ∷ rest))
      → append_entry (λ a b. pointwise nat_eq (bytes a) (bytes b)) es k v ≡ es ++ (k, v) ∷ []
  unfolding IsStrictlySortedBy
  append_next [] rest k v h = refl
  append_next (e ∷ es) rest k v h =
      miss (pointwise nat_eq (bytes k) (bytes e.0)) ((e.0, v) ∷ es) (e ∷ append_entry (λ a b. pointwise nat_eq (bytes a) (bytes b)) es k v) (other e.0 k (below_next e.0 es rest k v h.0))
      ∙ ap (λ (r : List (K × ℕ)). e ∷ r) (append_next es rest k v h.1)
