-- The maximal runs of written bytes, one run after the other.
use Rattle.std.proofs.Common.{◌≡◌, ℕ, zero, suc, ◌+◌, ◌-◌, ◌<◌, ◌≤◌, ◌⊎◌, inl, inr, Bool, true, false, List, [], ◌∷◌, ◌++◌, refl, sym, ap, subst, ◌∙◌, arith, length, get_or, take, drop, eqb, cond, append_assoc, append-nil, length-drop}
use Rattle.std.specs.List.{list_any}
use Rattle.std.proofs.lemmas.List.{drop-drop, drop_all, drop_more}
use Rattle.std.proofs.lemmas.Bool.{cond-true, cond-false, ne_eqb, eq-eqb}
use Rattle.vub_model.specs.declared.records.Span.{Span}
use Rattle.vub_model.specs.Written.{is_written}
use Rattle.vub_mem.specs.Memory.{Guest}
use Rattle.vub_mem.specs.Place.{content_of}
use Rattle.vub_model.specs.declared.setup.Object.{Object}
use Rattle.vub_model.specs.RunRecords.{with_byte, spans_in, spans_from}
use Rattle.vub_core.specs.Spans.{IsSpan}

-- the first span begins at this place or behind it
abbrev BeginsFrom : ℕ → List Span → Type 0
BeginsFrom place [] = Unit {0}
BeginsFrom place (s ∷ ss) = place ≤ s.offset

sooner : (place : ℕ) (ss : List Span) → BeginsFrom (place + 1) ss → BeginsFrom place ss
sooner place [] b = tt
sooner place (s ∷ ss) b = omega arith

with_begins : (number offset byte : ℕ) (ss : List Span) → BeginsFrom offset (with_byte number offset byte ss)
with_begins number offset byte [] = omega arith
with_begins number offset byte (s ∷ ss) =
    elim (eqb s.offset (offset + 1)) as (λ b. BeginsFrom offset (cond {A = List Span} b (record { object = number; offset = offset; bytes = byte ∷ s.bytes } ∷ ss) (record { object = number; offset = offset; bytes = byte ∷ [] } ∷ s ∷ ss))) [ true ↦ omega arith | false ↦ omega arith ]

begins : (flags : List (List Bool)) (number offset : ℕ) (bytes : List ℕ) → BeginsFrom offset (spans_in flags number offset bytes)
begins flags number offset [] = tt
begins flags number offset (byte ∷ bytes) =
    elim (is_written flags number offset) as (λ b. BeginsFrom offset (cond b (with_byte number offset byte (spans_in flags number (offset + 1) bytes)) (spans_in flags number (offset + 1) bytes))) [
      | true ↦ with_begins number offset byte (spans_in flags number (offset + 1) bytes)
      | false ↦ sooner offset (spans_in flags number (offset + 1) bytes) (begins flags number (offset + 1) bytes)
    ]

-- from an unwritten byte on
pub skip : (flags : List (List Bool)) (number offset byte : ℕ) (bytes : List ℕ) → is_written flags number offset ≡ false → spans_in flags number offset (byte ∷ bytes) ≡ spans_in flags number (offset + 1) bytes
skip flags number offset byte bytes none = cond-false (is_written flags number offset) (with_byte number offset byte (spans_in flags number (offset + 1) bytes)) (spans_in flags number (offset + 1) bytes) none

-- a byte before spans that begin further behind
alone : (number offset byte : ℕ) (ss : List Span) → BeginsFrom (offset + 2) ss → with_byte number offset byte ss ≡ record { object = number; offset = offset; bytes = byte ∷ [] } ∷ ss
alone number offset byte [] b = refl
alone number offset byte (s ∷ ss) b = cond-false (eqb s.offset (offset + 1)) _ _ (ne_eqb s.offset (offset + 1) (λ same. let low : offset + 2 ≤ s.offset = b in absurd (omega arith)))

taken : (flags : List (List Bool)) (number offset byte : ℕ) (bytes : List ℕ) → is_written flags number offset ≡ true → spans_in flags number offset (byte ∷ bytes) ≡ with_byte number offset byte (spans_in flags number (offset + 1) bytes)
taken flags number offset byte bytes some = cond-true (is_written flags number offset) (with_byte number offset byte (spans_in flags number (offset + 1) bytes)) (spans_in flags number (offset + 1) bytes) some

-- behind the end of a run
behind : (flags : List (List Bool)) (number offset : ℕ) (bytes : List ℕ) → (bytes ≡ []) ⊎ (is_written flags number offset ≡ false) → BeginsFrom (offset + 1) (spans_in flags number offset bytes)
behind flags number offset [] end = tt
behind flags number offset (byte ∷ bytes) (inl none) = absurd cc
behind flags number offset (byte ∷ bytes) (inr none) = let B : List Span → Type 0 = λ ss. BeginsFrom (offset + 1) ss in subst B (sym (skip flags number offset byte bytes none)) (begins flags number (offset + 1) bytes)

-- a run is one span
pub run_first : (flags : List (List Bool)) (number start n : ℕ) (bytes : List ℕ) → n < length bytes → ((place : ℕ) → start ≤ place → place ≤ start + n → is_written flags number place ≡ true) → (drop (suc n) bytes ≡ []) ⊎ (is_written flags number (start + suc n) ≡ false) →
    spans_in flags number start bytes ≡ record { object = number; offset = start; bytes = take (suc n) bytes } ∷ spans_in flags number (start + suc n) (drop (suc n) bytes)
run_first flags number start n [] within all stops = absurd (omega arith)
run_first flags number start zero (byte ∷ bytes) within all stops =
    taken flags number start byte bytes (all start (omega arith) (omega arith))
    ∙ alone number start byte (spans_in flags number (start + 1) bytes) (let B : ℕ → Type 0 = λ k. BeginsFrom k (spans_in flags number (start + 1) bytes) in let up : start + 1 + 1 ≡ start + 2 = omega arith in subst B up (behind flags number (start + 1) bytes stops))
run_first flags number start (suc n) (byte ∷ bytes) within all stops =
    let next : ℕ = start + 1 in
    let up : start + suc (suc n) ≡ next + suc n = omega arith in
    let ends : (drop (suc n) bytes ≡ []) ⊎ (is_written flags number (next + suc n) ≡ false) = (let E : ℕ → Type 0 = λ k. (drop (suc n) bytes ≡ []) ⊎ (is_written flags number k ≡ false) in subst E up stops) in
    let rest = run_first flags number next n bytes (omega arith) (λ place low high. all place (omega arith) (omega arith)) ends in
    taken flags number start byte bytes (all start (omega arith) (omega arith))
    ∙ ap (λ ss. with_byte number start byte ss) rest
    ∙ cond-true (eqb next (start + 1)) (record { object = number; offset = start; bytes = byte ∷ take (suc n) bytes } ∷ spans_in flags number (next + suc n) (drop (suc n) bytes)) _ (eq-eqb next (start + 1) refl)
    ∙ ap (λ k. record { object = number; offset = start; bytes = byte ∷ take (suc n) bytes } ∷ spans_in flags number k (drop (suc n) bytes)) (sym up)

-- the loop over one content: a run is pushed
pub push_run : (all : List (List Bool)) (flags : List Bool) (number at end : ℕ) (content : List ℕ) (spans next goal : List Span) (s : Span) → get_or all number [] ≡ flags → IsSpan flags at (length content) end → s ≡ record { object = number; offset = at; bytes = take (end - at) (drop at content) } → next ≡ spans ++ s ∷ [] → spans ++ spans_in all number at (drop at content) ≡ goal → next ++ spans_in all number end (drop end content) ≡ goal
push_run all flags number at end content spans next goal s is run span push so =
    let n : ℕ = end - at - 1 in
    let size : suc n ≡ end - at = omega (arith, run.some) in
    let last : at + suc n ≡ end = omega (arith, run.some) in
    let back : drop (suc n) (drop at content) ≡ drop end content = drop-drop (suc n) at content ∙ ap (λ k. drop k content) (let e : at + suc n ≡ end = last in e) in
    let within : n < length (drop at content) = omega (arith, length-drop at content, run.some, run.within) in
    let written : (place : ℕ) → at ≤ place → place ≤ at + n → is_written all number place ≡ true = λ place low high. ap (λ f. get_or f place false) is ∙ run.all place low (omega (arith, run.some)) in
    let stops : (drop (suc n) (drop at content) ≡ []) ⊎ (is_written all number (at + suc n) ≡ false) = elim run.stops [
      | inl ends ↦ inl (back ∙ drop_all end content (omega arith))
      | inr none ↦ inr (ap (λ k. is_written all number k) last ∙ ap (λ f. get_or f end false) is ∙ none)
    ] in
    let first = run_first all number at n (drop at content) within written stops in
    let whole : s ≡ record { object = number; offset = at; bytes = take (suc n) (drop at content) } = span ∙ ap (λ k. record { object = number; offset = at; bytes = take k (drop at content) }) (sym size) in
    ap (λ l. l ++ spans_in all number end (drop end content)) push
    ∙ append_assoc spans (s ∷ []) (spans_in all number end (drop end content))
    ∙ ap (λ l. spans ++ l) (ap (λ x. x ∷ spans_in all number end (drop end content)) whole
    ∙ ap (λ k. record { object = number; offset = at; bytes = take (suc n) (drop at content) } ∷ spans_in all number k (drop end content)) (sym last)
    ∙ ap (λ l. record { object = number; offset = at; bytes = take (suc n) (drop at content) } ∷ spans_in all number (at + suc n) l) (sym back)
    ∙ sym first)
    ∙ so

-- the loop over one content: a byte is passed
pub pass_byte : (all : List (List Bool)) (flags : List Bool) (number at : ℕ) (content : List ℕ) (spans goal : List Span) → get_or all number [] ≡ flags → get_or flags at false ≡ false → at < length content → spans ++ spans_in all number at (drop at content) ≡ goal → spans ++ spans_in all number (at + 1) (drop (at + 1) content) ≡ goal
pass_byte all flags number at content spans goal is none within so =
    ap (λ l. spans ++ l) (sym (skip all number at (get_or content at 0) (drop (at + 1) content) (ap (λ f. get_or f at false) is ∙ none)) ∙ ap (λ l. spans_in all number at l) (sym (drop_more content at 0 within))) ∙ so

-- a content with no byte written
none-there : (flags : List Bool) (place : ℕ) → list_any (λ flag. flag) flags ≡ false → get_or flags place false ≡ false
none-there [] place none = refl
none-there (true ∷ flags) place none = absurd cc
none-there (false ∷ flags) zero none = refl
none-there (false ∷ flags) (suc place) none = none-there flags place none

no-spans : (all : List (List Bool)) (number offset : ℕ) (bytes : List ℕ) → ((place : ℕ) → is_written all number place ≡ false) → spans_in all number offset bytes ≡ []
no-spans all number offset [] none = refl
no-spans all number offset (byte ∷ bytes) none = skip all number offset byte bytes (none offset) ∙ no-spans all number (offset + 1) bytes none

pub push_none : (all : List (List Bool)) (flags : List Bool) (number : ℕ) (content : List ℕ) (spans : List Span) → get_or all number [] ≡ flags → list_any (λ flag. flag) flags ≡ false → spans ≡ spans ++ spans_in all number 0 content
push_none all flags number content spans is none =
    let no = no-spans all number 0 content (λ place. ap (λ f. get_or f place false) is ∙ none-there flags place none) in
    sym (append-nil spans) ∙ ap (λ l. spans ++ l) (sym no)

-- the loop over the contents
pub next_content : (all : List (List Bool)) (g : Guest) (objects : List Object) (number : ℕ) (d : Object) (spans next goal : List Span) → number < length objects → spans ++ spans_from all g number (drop number objects) ≡ goal → next ≡ spans ++ spans_in all number 0 (content_of g.contents number) → next ++ spans_from all g (number + 1) (drop (number + 1) objects) ≡ goal
next_content all g objects number d spans next goal within so push =
    ap (λ l. l ++ spans_from all g (number + 1) (drop (number + 1) objects)) push
    ∙ append_assoc spans (spans_in all number 0 (content_of g.contents number)) (spans_from all g (number + 1) (drop (number + 1) objects))
    ∙ ap (λ l. spans ++ l) (ap (λ l. spans_from all g number l) (sym (drop_more objects number d within)))
    ∙ so
