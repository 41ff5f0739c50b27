-- A word of decimal digits is a number that the standard library reads, or too great.
use Rattle.std.proofs.Common.{◌≡◌, ◌∙◌, ℕ, ◌^◌, ◌<◌, ◌≤◌, List, [], ◌∷◌, length, drop, Bool, true, false, true≢false, ◌&&◌, nat_eq, nat_le, cond, refl, sym, ap, subst, arith, Option, Some, None, if◌then◌else◌}
use Rattle.std.proofs.lemmas.Bool.Decides.{nat_tests}
use Rattle.std.specs.List.{list_all}
use Rattle.std.specs.Char.{digit_value}
use Rattle.std.specs.Str.Parse.{AllDigits, IsNumeral, digits_value, without_leading_plus}
use Rattle.vub_live.specs.Words.{begins_well, is_digit, is_decimal, number_in, within}

both : (a b : Bool) → (a && b) ≡ true → (a ≡ true) × (b ≡ true)
both true b h = (refl, h)
both false b h = absurd (true≢false (sym h))

digit_small : (c : ℕ) → is_digit c ≡ true → digit_value c < 10
digit_small c h = grind (arith, nat_tests, h)

digit_no_plus : (c : ℕ) → is_digit c ≡ true → nat_eq c 43 ≡ false
digit_no_plus c h = grind (arith, nat_tests, h)

all_digits : (ds : List ℕ) → list_all is_digit ds ≡ true → AllDigits 10 ds
all_digits [] h = tt
all_digits (c ∷ cs) h = let parts = both (is_digit c) (list_all is_digit cs) h in (digit_small c parts.0, all_digits cs parts.1)

no_plus : (ds : List ℕ) → list_all is_digit ds ≡ true → without_leading_plus ds ≡ ds
no_plus [] h = refl
no_plus (c ∷ cs) h = ap (λ (b : Bool). drop (cond b 1 0) (c ∷ cs)) (digit_no_plus c (both (is_digit c) (list_all is_digit cs) h).0)

not_empty : (ds : List ℕ) → begins_well ds ≡ true → 0 < length ds
not_empty [] h = absurd (true≢false (sym h))
not_empty (c ∷ cs) h = omega arith

-- the number that is read is that of the digits
pub same_digits : (s : List ℕ) → is_decimal s ≡ true → without_leading_plus s ≡ s
same_digits s h = no_plus s (both (begins_well s) (list_all is_digit s) h).1

past : (most n : ℕ) → most < 2 ^ 32 → (n < 2 ^ 32 → ⊥) → within most n ≡ None
past most n small h = let great : nat_le n most ≡ false = grind (arith, nat_tests, h, small) in ap (λ b. if b then Some n else None) great

-- a word of digits that is not read is too great a number
pub too_great : (most : ℕ) (s : List ℕ) → most < 2 ^ 32 → is_decimal s ≡ true → (IsNumeral 10 (without_leading_plus s) × (digits_value 10 (without_leading_plus s) < 2 ^ 32) → ⊥) → None ≡ number_in most s
unfolding number_in
too_great most s fits h refused =
    let parts = both (begins_well s) (list_all is_digit s) h in
    let P : List ℕ → Type 0 = λ l. IsNumeral 10 l × (digits_value 10 l < 2 ^ 32) in
    let unread : P s → ⊥ = λ p. refused (subst P (sym (no_plus s parts.1)) p) in
    let none : within most (digits_value 10 s) ≡ None = past most (digits_value 10 s) fits (λ small. unread ((not_empty s parts.0, all_digits s parts.1), small)) in
    sym (ap (λ b. if b then within most (digits_value 10 s) else None) h ∙ none)
