-- Laws of numbered contents.
use Rattle.std.proofs.Common.{◌≡◌, ℕ, suc, ◌+◌, ◌<◌, ◌≤◌, inl, inr, true, false, List, [], ◌∷◌, ◌++◌, Some, None, Result, Ok, Err, refl, sym, ap, subst, ◌∙◌, arith, position, ltb, eqb, length, get_or, set, take, drop, slice_set, length-set, length-append, length-drop, length-take-le, take-append-drop}
use Rattle.std.specs.Prelude.{OnOk, OnErr}
use Rattle.std.specs.List.{position_or_len, AllByRecursion}
use Rattle.std.proofs.lemmas.Bool.{cases_Bool, ltb-true, ltb-false, cond-true, cond-false}
use Rattle.vub_mem.specs.declared.region.Region.{Region}
use Rattle.vub_mem.specs.declared.content.Content.{Content}
use Rattle.vub_mem.specs.Place.{is_numbered, content_of, with_byte, with_bytes, overwritten}
use Rattle.vub_mem.specs.Sound.{IsBacked, IsSound}
use Rattle.vub_mem.specs.Found.{IsPlace}

abbrev first : List Content → ℕ → ℕ
first cs o = position_or_len (λ c. is_numbered c o) cs

first_true : (c : Content) (cs : List Content) (o : ℕ) → eqb c.object o ≡ true → first (c ∷ cs) o ≡ 0
first_true c cs o t = rw t refl

first_false : (c : Content) (cs : List Content) (o : ℕ) → eqb c.object o ≡ false → first (c ∷ cs) o ≡ suc (first cs o)
first_false c cs o f = rw f (omega arith)

pub content_true : (c : Content) (cs : List Content) (o : ℕ) → eqb c.object o ≡ true → content_of (c ∷ cs) o ≡ c.bytes
content_true c cs o t = rw t refl

pub content_false : (c : Content) (cs : List Content) (o : ℕ) → eqb c.object o ≡ false → content_of (c ∷ cs) o ≡ content_of cs o
content_false c cs o f = rw f refl

content_at : (cs : List Content) (o : ℕ) (d : Content) → first cs o < length cs → (get_or cs (first cs o) d).bytes ≡ content_of cs o
content_at [] o d h = absurd (omega arith)
content_at (c ∷ cs) o d h =
    elim (cases_Bool (eqb c.object o)) [
      | inl t ↦ ap (λ k. (get_or (c ∷ cs) k d).bytes) (first_true c cs o t) ∙ sym (content_true c cs o t)
      | inr f ↦ (let below : first cs o < length cs = omega (arith, first_false c cs o f) in
          ap (λ k. (get_or (c ∷ cs) k d).bytes) (first_false c cs o f) ∙ content_at cs o d below ∙ sym (content_false c cs o f))
    ]

pub with_true : (c : Content) (cs : List Content) (o i b : ℕ) → eqb c.object o ≡ true → with_byte (c ∷ cs) o i b ≡ record c { bytes = slice_set c.bytes i b } ∷ cs
with_true c cs o i b t = rw t refl

pub with_false : (c : Content) (cs : List Content) (o i b : ℕ) → eqb c.object o ≡ false → with_byte (c ∷ cs) o i b ≡ c ∷ with_byte cs o i b
with_false c cs o i b f = rw f refl

-- the content at a place with other bytes
abbrev rewritten : List Content → ℕ → Content → List ℕ → Content
rewritten cs k d bytes = record { object = (get_or cs k d).object; bytes = bytes }

write_here : (cs : List Content) (o : ℕ) (d : Content) (i b : ℕ) → first cs o < length cs →
    set cs (first cs o) (rewritten cs (first cs o) d (slice_set (content_of cs o) i b)) ≡ with_byte cs o i b
write_here [] o d i b h = absurd (omega arith)
write_here (c ∷ cs) o d i b h =
    elim (cases_Bool (eqb c.object o)) [
      | inl t ↦ ap (λ k. set (c ∷ cs) k (rewritten (c ∷ cs) k d (slice_set (content_of (c ∷ cs) o) i b))) (first_true c cs o t)
          ∙ ap (λ bs. record c { bytes = slice_set bs i b } ∷ cs) (content_true c cs o t)
          ∙ sym (with_true c cs o i b t)
      | inr f ↦ (let below : first cs o < length cs = omega (arith, first_false c cs o f) in
          ap (λ k. set (c ∷ cs) k (rewritten (c ∷ cs) k d (slice_set (content_of (c ∷ cs) o) i b))) (first_false c cs o f)
          ∙ ap (λ bs. c ∷ set cs (first cs o) (rewritten cs (first cs o) d (slice_set bs i b))) (content_false c cs o f)
          ∙ ap (λ t. c ∷ t) (write_here cs o d i b below)
          ∙ sym (with_false c cs o i b f))
    ]

pub stores_true : (c : Content) (cs : List Content) (o i : ℕ) (bs : List ℕ) → eqb c.object o ≡ true → with_bytes (c ∷ cs) o i bs ≡ record c { bytes = overwritten c.bytes i bs } ∷ cs
stores_true c cs o i bs t = rw t refl

pub stores_false : (c : Content) (cs : List Content) (o i : ℕ) (bs : List ℕ) → eqb c.object o ≡ false → with_bytes (c ∷ cs) o i bs ≡ c ∷ with_bytes cs o i bs
stores_false c cs o i bs f = rw f refl

store_here : (cs : List Content) (o : ℕ) (d : Content) (i : ℕ) (bs : List ℕ) → first cs o < length cs →
    set cs (first cs o) (rewritten cs (first cs o) d (overwritten (content_of cs o) i bs)) ≡ with_bytes cs o i bs
store_here [] o d i bs h = absurd (omega arith)
store_here (c ∷ cs) o d i bs h =
    elim (cases_Bool (eqb c.object o)) [
      | inl t ↦ ap (λ k. set (c ∷ cs) k (rewritten (c ∷ cs) k d (overwritten (content_of (c ∷ cs) o) i bs))) (first_true c cs o t)
          ∙ ap (λ xs. record c { bytes = overwritten xs i bs } ∷ cs) (content_true c cs o t)
          ∙ sym (stores_true c cs o i bs t)
      | inr f ↦ (let below : first cs o < length cs = omega (arith, first_false c cs o f) in
          ap (λ k. set (c ∷ cs) k (rewritten (c ∷ cs) k d (overwritten (content_of (c ∷ cs) o) i bs))) (first_false c cs o f)
          ∙ ap (λ xs. c ∷ set cs (first cs o) (rewritten cs (first cs o) d (overwritten xs i bs))) (content_false c cs o f)
          ∙ ap (λ t. c ∷ t) (store_here cs o d i bs below)
          ∙ sym (stores_false c cs o i bs f))
    ]

-- a write of no bytes
pub store_none : (cs : List Content) (o i : ℕ) (bs : List ℕ) → length bs ≤ 0 → cs ≡ with_bytes cs o i bs
store_none cs o i (b ∷ bs) h = absurd (omega arith)
store_none [] o i [] h = refl
store_none (c ∷ cs) o i [] h =
    elim (cases_Bool (eqb c.object o)) [
      | inl t ↦ (let same : c.bytes ≡ overwritten c.bytes i [] = sym (take-append-drop i c.bytes) ∙ ap (λ k. take i c.bytes ++ drop k c.bytes) (let e : i ≡ i + 0 = omega arith in e) in
          ap (λ xs. record c { bytes = xs } ∷ cs) same ∙ sym (stores_true c cs o i [] t))
      | inr f ↦ ap (λ l. c ∷ l) (store_none cs o i [] h) ∙ sym (stores_false c cs o i [] f)
    ]

no_content : (cs : List Content) (o : ℕ) → length cs ≤ first cs o → content_of cs o ≡ []
no_content [] o h = refl
no_content (c ∷ cs) o h =
    elim (cases_Bool (eqb c.object o)) [
      | inl t ↦ absurd (omega (arith, first_true c cs o t))
      | inr f ↦ content_false c cs o f ∙ no_content cs o (omega (arith, first_false c cs o f))
    ]

pub place_found : (cs : List Content) (o k : ℕ) → Some k ≡ position (λ c. is_numbered c o) cs → IsPlace cs o k
place_found cs o k e =
    elim (cases_Bool (ltb (first cs o) (length cs))) [
      | inl t ↦ (let same : k ≡ first cs o = (let h : Some k ≡ Some (first cs o) = e ∙ cond-true (ltb (first cs o) (length cs)) (Some (first cs o)) None t in cc) in
          let below : first cs o < length cs = ltb-true (first cs o) (length cs) t in
          subst (λ v. IsPlace cs o v) (sym same) (record { within = below; content = λ d. content_at cs o d below; write = λ d i b. write_here cs o d i b below; store = λ d i bs. store_here cs o d i bs below }))
      | inr f ↦ (let h : Some k ≡ None = e ∙ cond-false (ltb (first cs o) (length cs)) (Some (first cs o)) None f in cc)
    ]

pub place_none : (cs : List Content) (o : ℕ) → None ≡ position (λ c. is_numbered c o) cs → content_of cs o ≡ []
place_none cs o e =
    elim (cases_Bool (ltb (first cs o) (length cs))) [
      | inl t ↦ (let h : None ≡ Some (first cs o) = e ∙ cond-true (ltb (first cs o) (length cs)) (Some (first cs o)) None t in cc)
      | inr f ↦ no_content cs o (ltb-false (first cs o) (length cs) f)
    ]

-- a write keeps the length of each content
pub length-with_byte : (cs : List Content) (o i b q : ℕ) → length (content_of (with_byte cs o i b) q) ≡ length (content_of cs q)
length-with_byte [] o i b q = refl
length-with_byte (c ∷ cs) o i b q =
    elim (cases_Bool (eqb c.object o)) [
      | inl t ↦ ap (λ w. length (content_of w q)) (with_true c cs o i b t) ∙
          elim (cases_Bool (eqb c.object q)) [
            | inl s ↦ ap length (content_true (record c { bytes = slice_set c.bytes i b }) cs q s) ∙ length-set c.bytes i b ∙ sym (ap length (content_true c cs q s))
            | inr s ↦ ap length (content_false (record c { bytes = slice_set c.bytes i b }) cs q s) ∙ sym (ap length (content_false c cs q s))
          ]
      | inr f ↦ ap (λ w. length (content_of w q)) (with_false c cs o i b f) ∙
          elim (cases_Bool (eqb c.object q)) [
            | inl s ↦ ap length (content_true c (with_byte cs o i b) q s) ∙ sym (ap length (content_true c cs q s))
            | inr s ↦ ap length (content_false c (with_byte cs o i b) q s) ∙ length-with_byte cs o i b q ∙ sym (ap length (content_false c cs q s))
          ]
    ]

pub longer : (cs : List Content) (c : Content) (q : ℕ) → length (content_of cs q) ≤ length (content_of (cs ++ c ∷ []) q)
longer [] c q = omega arith
longer (x ∷ cs) c q =
    elim (cases_Bool (eqb x.object q)) [
      | inl t ↦ omega (arith, ap length (content_true x cs q t), ap length (content_true x (cs ++ c ∷ []) q t))
      | inr f ↦ omega (arith, ap length (content_false x cs q f), ap length (content_false x (cs ++ c ∷ []) q f), longer cs c q)
    ]

backed_longer : (cs : List Content) (c : Content) (rs : List Region) → AllByRecursion (λ r. IsBacked cs r) rs → AllByRecursion (λ r. IsBacked (cs ++ c ∷ []) r) rs
backed_longer cs c [] h = tt
backed_longer cs c (r ∷ rs) h = (omega (arith, h.0, longer cs c r.object), backed_longer cs c rs h.1)

-- a content more, or none where it was refused
pub sound_put : {T E : Type 0} (answer : Result T E) (rs : List Region) (cs ds : List Content) (c : Content) → IsSound (record { regions = rs; contents = cs }) → OnOk answer (ds ≡ cs ++ c ∷ []) → OnErr answer (ds ≡ cs) → IsSound (record { regions = rs; contents = ds })
sound_put (Ok x) rs cs ds c sound more same =
    subst (λ l. IsSound (record { regions = rs; contents = l })) (sym more) (record { bounded = sound.bounded; backed = backed_longer cs c rs sound.backed; apart = sound.apart })
sound_put (Err e) rs cs ds c sound more same = subst (λ l. IsSound (record { regions = rs; contents = l })) (sym same) sound

pub length-overwritten : (xs : List ℕ) (i : ℕ) (bs : List ℕ) → i + length bs ≤ length xs → length (overwritten xs i bs) ≡ length xs
length-overwritten xs i bs h = omega (arith, length-append (take i xs) (bs ++ drop (i + length bs) xs), length-append bs (drop (i + length bs) xs), length-drop (i + length bs) xs, (let low : i ≤ length xs = omega arith in length-take-le i xs low))

-- a write into a content keeps the length of each
pub length-with_bytes : (cs : List Content) (o i : ℕ) (bs : List ℕ) (q : ℕ) → i + length bs ≤ length (content_of cs o) → length (content_of (with_bytes cs o i bs) q) ≡ length (content_of cs q)
length-with_bytes [] o i bs q h = refl
length-with_bytes (c ∷ cs) o i bs q h =
    elim (cases_Bool (eqb c.object o)) [
      | inl t ↦ ap (λ w. length (content_of w q)) (stores_true c cs o i bs t) ∙
          elim (cases_Bool (eqb c.object q)) [
            | inl s ↦ ap length (content_true (record c { bytes = overwritten c.bytes i bs }) cs q s) ∙ length-overwritten c.bytes i bs (omega (arith, ap length (content_true c cs o t))) ∙ sym (ap length (content_true c cs q s))
            | inr s ↦ ap length (content_false (record c { bytes = overwritten c.bytes i bs }) cs q s) ∙ sym (ap length (content_false c cs q s))
          ]
      | inr f ↦ ap (λ w. length (content_of w q)) (stores_false c cs o i bs f) ∙
          elim (cases_Bool (eqb c.object q)) [
            | inl s ↦ ap length (content_true c (with_bytes cs o i bs) q s) ∙ sym (ap length (content_true c cs q s))
            | inr s ↦ ap length (content_false c (with_bytes cs o i bs) q s) ∙ length-with_bytes cs o i bs q (omega (arith, ap length (content_false c cs o f))) ∙ sym (ap length (content_false c cs q s))
          ]
    ]

backed-with_bytes : (cs : List Content) (o i : ℕ) (bs : List ℕ) (rs : List Region) → i + length bs ≤ length (content_of cs o) → AllByRecursion (λ r. IsBacked cs r) rs → AllByRecursion (λ r. IsBacked (with_bytes cs o i bs) r) rs
backed-with_bytes cs o i bs [] fits h = tt
backed-with_bytes cs o i bs (r ∷ rs) fits h = (omega (arith, h.0, length-with_bytes cs o i bs r.object fits), backed-with_bytes cs o i bs rs fits h.1)

pub sound_store : (rs : List Region) (cs ds : List Content) (o i : ℕ) (bs : List ℕ) → i + length bs ≤ length (content_of cs o) → IsSound (record { regions = rs; contents = cs }) → ds ≡ with_bytes cs o i bs → IsSound (record { regions = rs; contents = ds })
sound_store rs cs ds o i bs fits sound e =
    let Sound : List Content → Type 0 = λ l. IsSound (record { regions = rs; contents = l }) in
    subst Sound (sym e) (record { bounded = sound.bounded; backed = backed-with_bytes cs o i bs rs fits sound.backed; apart = sound.apart })
