-- What a run wrote, stored over a memory that is the same elsewhere, makes the memory in which the run ended.
use Rattle.std.proofs.Common.{◌≡◌, ℕ, zero, suc, ◌+◌, ◌<◌, ◌≤◌, inl, inr, Bool, true, false, cond, List, [], ◌∷◌, ◌++◌, length, take, drop, get_or, refl, sym, ap, subst, ◌∙◌, arith, eqb, leb, append_assoc}
use Rattle.std.proofs.lemmas.Bool.{cases_Bool, cond-true, cond-false, le-leb, eqb-true}
use Rattle.std.proofs.lemmas.List.{length_push}
use Rattle.vub_mem.specs.Memory.{Guest}
use Rattle.vub_mem.specs.Place.{content_of, overwritten}
use Rattle.vub_model.specs.declared.records.Span.{Span}
use Rattle.vub_model.specs.RunRecords.{with_byte, spans_in}
use Rattle.vub_model.specs.World.{stored}
use Rattle.vub_model.specs.Written.{is_written}
use Rattle.vub_talk.specs.Talking.{spans_stored}
use Rattle.vub_talk.proofs.Untouched.{over_if, length-over_if, content_over}

abbrev pub spans_over : List ℕ → List Span → List ℕ
spans_over xs [] = xs
spans_over xs (s ∷ spans) = spans_over (over_if xs s.offset s.bytes) spans

-- each span ends within so many bytes
abbrev AllFit : ℕ → List Span → Type 0
AllFit n [] = Unit {0}
AllFit n (s ∷ spans) = (s.offset + length s.bytes ≤ n) × AllFit n spans

over_true : (xs : List ℕ) (i : ℕ) (bs : List ℕ) → i + length bs ≤ length xs → over_if xs i bs ≡ overwritten xs i bs
over_true xs i bs fits = cond-true (leb (i + length bs) (length xs)) (overwritten xs i bs) xs (le-leb (i + length bs) (length xs) fits)

-- one byte more in front
over_split : (xs : List ℕ) (i b : ℕ) (bs : List ℕ) → i + suc (length bs) ≤ length xs → overwritten xs i (b ∷ bs) ≡ overwritten (overwritten xs i (b ∷ [])) (i + 1) bs
over_split [] i b bs fits = absurd (omega arith)
over_split (x ∷ xs) zero b bs fits =
    let one : zero + suc (length bs) ≡ suc (length bs) = omega arith in
    let two : 1 + length bs ≡ suc (length bs) = omega arith in
    ap (λ n. b ∷ (bs ++ drop n (x ∷ xs))) one ∙ sym (ap (λ n. b ∷ (bs ++ drop n (b ∷ xs))) two)
over_split (x ∷ xs) (suc i) b bs fits =
    let one : suc i + suc (length bs) ≡ suc (i + suc (length bs)) = omega arith in
    let two : suc i + 1 ≡ suc (i + 1) = omega arith in
    let three : suc (i + 1) + length bs ≡ suc (i + 1 + length bs) = omega arith in
    let inner : List ℕ = overwritten xs i (b ∷ []) in
    ap (λ n. x ∷ (take i xs ++ (b ∷ bs ++ drop n (x ∷ xs)))) one
    ∙ ap (λ l. x ∷ l) (over_split xs i b bs (omega arith))
    ∙ sym (ap (λ n. overwritten (x ∷ (take i xs ++ (b ∷ drop n (x ∷ xs)))) (suc i + 1) bs) two
    ∙ ap (λ n. overwritten (x ∷ inner) n bs) two
    ∙ ap (λ n. x ∷ (take (i + 1) inner ++ (bs ++ drop n (x ∷ inner)))) three)

fit_byte : (n k b : ℕ) (ss : List Span) → k < n → AllFit n ss → AllFit n (with_byte 0 k b ss)
fit_byte n k b [] below fits = (omega arith, tt)
fit_byte n k b (s ∷ ss) below fits = elim (cases_Bool (eqb s.offset (k + 1))) [
  | inl t ↦ subst (AllFit n) (sym (cond-true (eqb s.offset (k + 1)) (record { object = 0; offset = k; bytes = b ∷ s.bytes } ∷ ss) (record { object = 0; offset = k; bytes = b ∷ [] } ∷ s ∷ ss) t))
      (omega (arith, fits.0, eqb-true s.offset (k + 1) t), fits.1)
  | inr f ↦ subst (AllFit n) (sym (cond-false (eqb s.offset (k + 1)) (record { object = 0; offset = k; bytes = b ∷ s.bytes } ∷ ss) (record { object = 0; offset = k; bytes = b ∷ [] } ∷ s ∷ ss) f)) (omega arith, fits)
]

-- a byte and the spans behind it
over_byte : (xs : List ℕ) (k b : ℕ) (ss : List Span) → k < length xs → AllFit (length xs) ss → spans_over xs (with_byte 0 k b ss) ≡ spans_over (over_if xs k (b ∷ [])) ss
over_byte xs k b [] below fits = refl
over_byte xs k b (s ∷ ss) below fits = elim (cases_Bool (eqb s.offset (k + 1))) [
  | inl t ↦
      let at : s.offset ≡ k + 1 = eqb-true s.offset (k + 1) t in
      let long : length (overwritten xs k (b ∷ [])) ≡ length xs = ap length (sym (over_true xs k (b ∷ []) (omega arith))) ∙ length-over_if xs k (b ∷ []) in
      ap (spans_over xs) (cond-true (eqb s.offset (k + 1)) (record { object = 0; offset = k; bytes = b ∷ s.bytes } ∷ ss) (record { object = 0; offset = k; bytes = b ∷ [] } ∷ s ∷ ss) t)
      ∙ ap (λ ys. spans_over ys ss) (over_true xs k (b ∷ s.bytes) (omega (arith, fits.0, at)) ∙ over_split xs k b s.bytes (omega (arith, fits.0, at))
      ∙ sym (ap (λ ys. over_if ys s.offset s.bytes) (over_true xs k (b ∷ []) (omega arith)) ∙ ap (λ i. over_if (overwritten xs k (b ∷ [])) i s.bytes) at
      ∙ over_true (overwritten xs k (b ∷ [])) (k + 1) s.bytes (omega (arith, fits.0, at, long))))
  | inr f ↦ ap (spans_over xs) (cond-false (eqb s.offset (k + 1)) (record { object = 0; offset = k; bytes = b ∷ s.bytes } ∷ ss) (record { object = 0; offset = k; bytes = b ∷ [] } ∷ s ∷ ss) f)
]

spans_fit : (flags : List (List Bool)) (k n : ℕ) (bytes : List ℕ) → k + length bytes ≤ n → AllFit n (spans_in flags 0 k bytes)
spans_fit flags k n [] fits = tt
spans_fit flags k n (b ∷ bytes) fits = elim (is_written flags 0 k) as (λ t. AllFit n (cond t (with_byte 0 k b (spans_in flags 0 (k + 1) bytes)) (spans_in flags 0 (k + 1) bytes))) [
  | true ↦ fit_byte n k b (spans_in flags 0 (k + 1) bytes) (omega arith) (spans_fit flags (k + 1) n bytes (omega arith))
  | false ↦ spans_fit flags (k + 1) n bytes (omega arith)
]

length-apart : (xs ys : List ℕ) → length (xs ++ ys) ≡ length xs + length ys
length-apart [] ys = omega arith
length-apart (x ∷ xs) ys = (let rest = length-apart xs ys in omega arith)

-- the byte behind a front
over_front : (ps : List ℕ) (z b : ℕ) (zs : List ℕ) → overwritten (ps ++ z ∷ zs) (length ps) (b ∷ []) ≡ ps ++ b ∷ zs
over_front [] z b zs = refl
over_front (p ∷ ps) z b zs = (let up : suc (length ps) + 1 ≡ suc (length ps + 1) = omega arith in ap (λ n. p ∷ (take (length ps) (ps ++ z ∷ zs) ++ (b ∷ drop n (p ∷ (ps ++ z ∷ zs))))) up ∙ ap (λ l. p ∷ l) (over_front ps z b zs))

spans_make : (flags : List (List Bool)) (ps zs bytes : List ℕ) (k : ℕ) → length ps ≡ k → length zs ≡ length bytes →
    ((i : ℕ) → i < length bytes → is_written flags 0 (k + i) ≡ false → get_or zs i 0 ≡ get_or bytes i 0) → spans_over (ps ++ zs) (spans_in flags 0 k bytes) ≡ ps ++ bytes
spans_make flags ps [] [] k at long same = refl
spans_make flags ps (z ∷ zs) [] k at long same = absurd (omega arith)
spans_make flags ps [] (b ∷ bytes) k at long same = absurd (omega arith)
spans_make flags ps (z ∷ zs) (b ∷ bytes) k at long same =
    let rest : spans_over ((ps ++ b ∷ []) ++ zs) (spans_in flags 0 (k + 1) bytes) ≡ (ps ++ b ∷ []) ++ bytes =
    spans_make flags (ps ++ b ∷ []) zs bytes (k + 1) (length_push ps b ∙ ap (λ n. n + 1) at) (omega arith)
    (λ i below none. same (suc i) (omega arith) (let up : k + suc i ≡ k + 1 + i = omega arith in ap (is_written flags 0) up ∙ none)) in
    let joined : spans_over (ps ++ b ∷ zs) (spans_in flags 0 (k + 1) bytes) ≡ ps ++ b ∷ bytes =
    ap (λ l. spans_over l (spans_in flags 0 (k + 1) bytes)) (sym (append_assoc ps (b ∷ []) zs)) ∙ rest ∙ append_assoc ps (b ∷ []) bytes in
    let size : length (ps ++ z ∷ zs) ≡ k + suc (length zs) = length-apart ps (z ∷ zs) ∙ ap (λ n. n + suc (length zs)) at in
    elim (cases_Bool (is_written flags 0 k)) [
      | inl t ↦
          ap (spans_over (ps ++ z ∷ zs)) (cond-true (is_written flags 0 k) (with_byte 0 k b (spans_in flags 0 (k + 1) bytes)) (spans_in flags 0 (k + 1) bytes) t)
          ∙ over_byte (ps ++ z ∷ zs) k b (spans_in flags 0 (k + 1) bytes) (omega (arith, size)) (spans_fit flags (k + 1) (length (ps ++ z ∷ zs)) bytes (omega (arith, size)))
          ∙ ap (λ l. spans_over l (spans_in flags 0 (k + 1) bytes)) (over_true (ps ++ z ∷ zs) k (b ∷ []) (omega (arith, size)) ∙ ap (λ i. overwritten (ps ++ z ∷ zs) i (b ∷ [])) (sym at) ∙ over_front ps z b zs)
          ∙ joined
      | inr f ↦
          let zero_at : k + 0 ≡ k = omega arith in
          let byte : z ≡ b = same 0 (omega arith) (ap (is_written flags 0) zero_at ∙ f) in
          ap (spans_over (ps ++ z ∷ zs)) (cond-false (is_written flags 0 k) (with_byte 0 k b (spans_in flags 0 (k + 1) bytes)) (spans_in flags 0 (k + 1) bytes) f)
          ∙ ap (λ x. spans_over (ps ++ x ∷ zs) (spans_in flags 0 (k + 1) bytes)) byte ∙ joined
    ]

-- the content where the spans of a run are stored over bytes that are the same where none was written
pub spans_whole : (flags : List (List Bool)) (ys bytes : List ℕ) → length ys ≡ length bytes → ((i : ℕ) → i < length bytes → is_written flags 0 i ≡ false → get_or ys i 0 ≡ get_or bytes i 0) → spans_over ys (spans_in flags 0 0 bytes) ≡ bytes
spans_whole flags ys bytes long same =
    spans_make flags [] ys bytes 0 refl long (λ i below none. same i below (let up : 0 + i ≡ i = omega arith in sym (ap (is_written flags 0) up) ∙ none))

pub content_spanned : (g : Guest) (spans : List Span) → 0 < length (content_of g.contents 0) → content_of (spans_stored g spans).contents 0 ≡ spans_over (content_of g.contents 0) spans
content_spanned g [] some = refl
content_spanned g (s ∷ spans) some =
    let here = content_over g s.offset s.bytes some in
    content_spanned (stored g 0 s.offset s.bytes) spans (omega (arith, ap length here, length-over_if (content_of g.contents 0) s.offset s.bytes, some)) ∙ ap (λ xs. spans_over xs spans) here
