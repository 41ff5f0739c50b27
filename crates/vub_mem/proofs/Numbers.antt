-- Laws of the places of contents by their numbers.
use Rattle.std.proofs.Common.{Less, Equal, Greater, ◌≡◌, ◌≢◌, ℕ, zero, suc, ◌+◌, ◌<◌, ◌≤◌, ◌||◌, inl, inr, true, false, cond, List, [], ◌∷◌, ◌++◌, Option, Some, None, refl, sym, ap, subst, ◌∙◌, arith, position, ltb, eqb, length, get_or, set, is_some, length-append, length-set}
use Rattle.std.specs.BTreeMap.{BTreeMap, get, is_at}
use Rattle.std.specs.Ordering.{nat_cmp, is_eq}
use Rattle.std.specs.List.{position_or_len, AllByRecursion, list_any}
use Rattle.std.proofs.lemmas.Bool.{cases_Bool, eqb-true, eqb-false, eq-eqb, ltb-true, ltb-false, lt-ltb, le-ltb, cond-true, cond-false}
use Rattle.vub_mem.specs.declared.content.Content.{Content}
use Rattle.vub_mem.specs.Place.{is_numbered}
use Rattle.vub_mem.specs.Numbers.{IsIndexed}
use Rattle.vub_mem.proofs.Finds.{first_true, first_false, none_any}

not_eqb : (a b : ℕ) → a ≢ b → eqb a b ≡ false
not_eqb a b ne = elim (cases_Bool (eqb a b)) [ inl t ↦ absurd (ne (eqb-true a b t)) | inr f ↦ f ]

not_at : (a b : ℕ) → a ≢ b → is_at (nat_cmp a) b ≡ false
not_at a b ne =
    ap (λ e. is_eq (cond (ltb a b) Less (cond e Equal Greater))) (not_eqb a b ne)
    ∙ elim (cases_Bool (ltb a b)) [
      | inl t ↦ ap (λ l. is_eq (cond l Less Greater)) t
      | inr f ↦ ap (λ l. is_eq (cond l Less Greater)) f
    ]

abbrev first : List Content → ℕ → ℕ
first cs o = position_or_len (λ c. is_numbered c o) cs

abbrev place_of : List Content → ℕ → Option ℕ
place_of cs o = position (λ c. is_numbered c o) cs

-- the first place and the length decide the answer
same_place : (cs ds : List Content) (o : ℕ) → first cs o ≡ first ds o → length cs ≡ length ds → place_of cs o ≡ place_of ds o
same_place cs ds o f l = ap (λ k. cond (ltb k (length cs)) (Some k) None) f ∙ ap (λ n. cond (ltb (first ds o) n) (Some (first ds o)) None) l

-- a content whose bytes change stays where it is
first-set : (cs : List Content) (k : ℕ) (c : Content) (o : ℕ) → ((d : Content) → (get_or cs k d).object ≡ c.object) → first (set cs k c) o ≡ first cs o
first-set [] k c o same = refl
first-set (x ∷ cs) zero c o same =
    elim (cases_Bool (eqb x.object o)) [
      | inl t ↦ first_true (λ (y : Content). is_numbered y o) c cs (ap (λ n. eqb n o) (sym (same c)) ∙ t) ∙ sym (first_true (λ (y : Content). is_numbered y o) x cs t)
      | inr f ↦ first_false (λ (y : Content). is_numbered y o) c cs (ap (λ n. eqb n o) (sym (same c)) ∙ f) ∙ sym (first_false (λ (y : Content). is_numbered y o) x cs f)
    ]
first-set (x ∷ cs) (suc k) c o same =
    elim (cases_Bool (eqb x.object o)) [
      | inl t ↦ first_true (λ (y : Content). is_numbered y o) x (set cs k c) t ∙ sym (first_true (λ (y : Content). is_numbered y o) x cs t)
      | inr f ↦ first_false (λ (y : Content). is_numbered y o) x (set cs k c) f ∙ ap suc (first-set cs k c o same) ∙ sym (first_false (λ (y : Content). is_numbered y o) x cs f)
    ]

pub indexed_set : (cs : List Content) (k : ℕ) (c : Content) (m : BTreeMap ℕ ℕ) → ((d : Content) → (get_or cs k d).object ≡ c.object) → IsIndexed cs m → IsIndexed (set cs k c) m
indexed_set cs k c m same is o = is o ∙ sym (same_place (set cs k c) cs o (first-set cs k c o same) (length-set cs k c))

-- a content more stands at the end, if its number is sought and no other has it
first_more_found : (cs : List Content) (c : Content) (o : ℕ) → first cs o < length cs → first (cs ++ c ∷ []) o ≡ first cs o
first_more_found [] c o h = absurd (omega arith)
first_more_found (x ∷ cs) c o h =
    elim (cases_Bool (eqb x.object o)) [
      | inl t ↦ first_true (λ (y : Content). is_numbered y o) x (cs ++ c ∷ []) t ∙ sym (first_true (λ (y : Content). is_numbered y o) x cs t)
      | inr f ↦ (let below : first cs o < length cs = omega (arith, first_false (λ (y : Content). is_numbered y o) x cs f) in
          first_false (λ (y : Content). is_numbered y o) x (cs ++ c ∷ []) f ∙ ap suc (first_more_found cs c o below) ∙ sym (first_false (λ (y : Content). is_numbered y o) x cs f))
    ]

first_more_end : (cs : List Content) (c : Content) (o : ℕ) → length cs ≤ first cs o → first (cs ++ c ∷ []) o ≡ length cs + first (c ∷ []) o
first_more_end [] c o h = omega arith
first_more_end (x ∷ cs) c o h =
    elim (cases_Bool (eqb x.object o)) [
      | inl t ↦ absurd (omega (arith, first_true (λ (y : Content). is_numbered y o) x cs t))
      | inr f ↦ (let end : length cs ≤ first cs o = omega (arith, first_false (λ (y : Content). is_numbered y o) x cs f) in
          omega (arith, first_false (λ (y : Content). is_numbered y o) x (cs ++ c ∷ []) f, first_more_end cs c o end))
    ]

first_absent : (cs : List Content) (o : ℕ) → AllByRecursion (λ c. c.object ≢ o) cs → length cs ≤ first cs o
first_absent [] o h = omega arith
first_absent (x ∷ cs) o h =
    elim (cases_Bool (eqb x.object o)) [
      | inl t ↦ absurd (h.0 (eqb-true x.object o t))
      | inr f ↦ omega (arith, first_false (λ (y : Content). is_numbered y o) x cs f, first_absent cs o h.1)
    ]

some_at : (cs : List Content) (o k : ℕ) → first cs o ≡ k → k < length cs → place_of cs o ≡ Some k
some_at cs o k e h = cond-true (ltb (first cs o) (length cs)) (Some (first cs o)) None (lt-ltb (first cs o) (length cs) (omega arith)) ∙ ap (λ i. Some i) e

none_at : (cs : List Content) (o : ℕ) → length cs ≤ first cs o → place_of cs o ≡ None
none_at cs o h = cond-false (ltb (first cs o) (length cs)) (Some (first cs o)) None (le-ltb (first cs o) (length cs) h)

-- the new content under its own number
pub place_new : (cs : List Content) (c : Content) → AllByRecursion (λ x. x.object ≢ c.object) cs → place_of (cs ++ c ∷ []) c.object ≡ Some (length cs)
place_new cs c absent =
    let here : first (c ∷ []) c.object ≡ 0 = first_true (λ (y : Content). is_numbered y c.object) c [] (eq-eqb c.object c.object refl) in
    some_at (cs ++ c ∷ []) c.object (length cs)
    (let at : first (cs ++ c ∷ []) c.object ≡ length cs + first (c ∷ []) c.object = first_more_end cs c c.object (first_absent cs c.object absent) in omega arith)
    (omega (arith, length-append cs (c ∷ [])))

-- every other number stays where it was
pub place_other : (cs : List Content) (c : Content) (o : ℕ) → c.object ≢ o → place_of (cs ++ c ∷ []) o ≡ place_of cs o
place_other cs c o ne =
    elim (cases_Bool (ltb (first cs o) (length cs))) [
      | inl t ↦ (let below : first cs o < length cs = ltb-true (first cs o) (length cs) t in
          some_at (cs ++ c ∷ []) o (first cs o) (first_more_found cs c o below) (omega (arith, length-append cs (c ∷ []))) ∙ sym (some_at cs o (first cs o) refl below))
      | inr f ↦ (let end : length cs ≤ first cs o = ltb-false (first cs o) (length cs) f in
          let there : first (c ∷ []) o ≡ suc (first [] o) = first_false (λ (y : Content). is_numbered y o) c [] (not_eqb c.object o ne) in
          let at : first (cs ++ c ∷ []) o ≡ length cs + first (c ∷ []) o = first_more_end cs c o end in
          none_at (cs ++ c ∷ []) o (omega (arith, length-append cs (c ∷ []))) ∙ sym (none_at cs o end))
    ]

any_found : (cs : List Content) (o : ℕ) → first cs o < length cs → list_any (λ c. is_numbered c o) cs ≡ true
any_found [] o h = absurd (omega arith)
any_found (x ∷ cs) o h =
    elim (cases_Bool (eqb x.object o)) [
      | inl t ↦ ap (λ b. b || list_any (λ c. is_numbered c o) cs) t
      | inr f ↦ ap (λ b. b || list_any (λ c. is_numbered c o) cs) f ∙ any_found cs o (omega (arith, first_false (λ (y : Content). is_numbered y o) x cs f))
    ]

any_none : (cs : List Content) (o : ℕ) → length cs ≤ first cs o → list_any (λ c. is_numbered c o) cs ≡ false
any_none [] o h = refl
any_none (x ∷ cs) o h =
    elim (cases_Bool (eqb x.object o)) [
      | inl t ↦ absurd (omega (arith, first_true (λ (y : Content). is_numbered y o) x cs t))
      | inr f ↦ ap (λ b. b || list_any (λ c. is_numbered c o) cs) f ∙ any_none cs o (omega (arith, first_false (λ (y : Content). is_numbered y o) x cs f))
    ]

-- whether a content has the number
pub any_is : (cs : List Content) (o : ℕ) (p : Option ℕ) → p ≡ place_of cs o → is_some p ≡ list_any (λ c. is_numbered c o) cs
any_is cs o p e =
    elim (cases_Bool (ltb (first cs o) (length cs))) [
      | inl t ↦ (let below : first cs o < length cs = ltb-true (first cs o) (length cs) t in
          ap is_some (e ∙ some_at cs o (first cs o) refl below) ∙ sym (any_found cs o below))
      | inr f ↦ (let end : length cs ≤ first cs o = ltb-false (first cs o) (length cs) f in
          ap is_some (e ∙ none_at cs o end) ∙ sym (any_none cs o end))
    ]

pub absent_is : (cs : List Content) (o : ℕ) → None ≡ place_of cs o → AllByRecursion (λ c. c.object ≢ o) cs
absent_is cs o e = none_any (λ (x : Content). is_numbered x o) (λ (x : Content). x.object ≢ o) cs (λ x f. eqb-false x.object o f) (sym (any_is cs o None e))

pub indexed_push : (cs : List Content) (c : Content) (m n : BTreeMap ℕ ℕ) (k : ℕ) → k ≡ length cs → AllByRecursion (λ x. x.object ≢ c.object) cs → get nat_cmp n c.object ≡ Some k →
    ((q : ℕ) → is_at (nat_cmp c.object) q ≡ false → get nat_cmp n q ≡ get nat_cmp m q) → IsIndexed cs m → IsIndexed (cs ++ c ∷ []) n
indexed_push cs c m n k end absent here others is o =
    elim (cases_Bool (eqb c.object o)) [
      | inl t ↦ (let same : c.object ≡ o = eqb-true c.object o t in
          subst (λ q. get nat_cmp n q ≡ place_of (cs ++ c ∷ []) q) same (here ∙ ap (λ i. Some i) end ∙ sym (place_new cs c absent)))
      | inr f ↦ (let ne : c.object ≢ o = eqb-false c.object o f in
          others o (not_at c.object o ne) ∙ is o ∙ sym (place_other cs c o ne))
    ]
