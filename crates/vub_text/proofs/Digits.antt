-- The digits of bytes, part by part.
use Rattle.std.proofs.Common.{◌≡◌, ℕ, ◌/◌, ◌%◌, true, nat_lt, slice_index, length, append-nil, List, [], ◌∷◌, ◌++◌, take, drop, refl, sym, ap, subst, ◌∙◌, arith}
use Rattle.std.specs.Str.{IsAscii, IsUtf8}
use Rattle.std.specs.List.{list_all}
use Rattle.std.proofs.lemmas.Bool.Decides.{nat_tests}
use Rattle.std.proofs.lemmas.List.{append_assoc, take-append-drop}
use Rattle.std.proofs.lemmas.Str.{IsUtf8-from_ascii}
use Rattle.std.proofs.lemmas.Str.Ascii.{IsAscii-nil, IsAscii-cons}
use Rattle.hex.specs.Hex.{encode_with, encode_lower, lower_digits}
use Rattle.hex.proofs.HexLemmas.{IsAscii-encode_with}

encode-append : (t xs ys : List ℕ) → encode_with t (xs ++ ys) ≡ encode_with t xs ++ encode_with t ys
unfolding encode_with
encode-append t [] ys = refl
encode-append t (x ∷ xs) ys = ap (λ ds. slice_index t (x / 16) ∷ slice_index t (x % 16) ∷ ds) (encode-append t xs ys)

-- bytes that pass the test are ASCII
all-ascii : (bs : List ℕ) → list_all (λ b. nat_lt b 128) bs ≡ true → IsAscii bs
all-ascii [] all = IsAscii-nil
all-ascii (b ∷ bs) all =
    let one : nat_lt b 128 ≡ true = grind (arith, nat_tests, all) in
    let rest : list_all (λ b. nat_lt b 128) bs ≡ true = grind (arith, nat_tests, all) in
    IsAscii-cons b bs (grind (arith, nat_tests, one)) (all-ascii bs rest)

digits-ascii : IsAscii lower_digits
digits-ascii = all-ascii lower_digits refl

-- they are a text
pub digits-text : (bytes ds : List ℕ) → ds ≡ encode_lower bytes → IsUtf8 ds
digits-text bytes ds is = subst IsUtf8 (sym is) (IsUtf8-from_ascii (encode_lower bytes) (IsAscii-encode_with lower_digits bytes digits-ascii))

-- the digits of the first bytes are written
pub part-written : (n : ℕ) (text next rest part more whole : List ℕ) → text ++ encode_lower rest ≡ whole → next ≡ text ++ encode_lower part → part ≡ take n rest → more ≡ drop n rest → next ++ encode_lower more ≡ whole
part-written n text next rest part more whole so is front back =
    let split : encode_lower part ++ encode_lower more ≡ encode_lower rest =
    sym (encode-append lower_digits part more) ∙ ap encode_lower (ap (λ l. l ++ more) front ∙ ap (λ l. take n rest ++ l) back ∙ take-append-drop n rest) in
    ap (λ l. l ++ encode_lower more) is ∙ append_assoc text (encode_lower part) (encode_lower more) ∙ ap (λ l. text ++ l) split ∙ so

-- and of no bytes there are none
pub none-left : (text rest whole : List ℕ) → length rest ≡ 0 → text ++ encode_lower rest ≡ whole → text ≡ whole
unfolding encode_with
none-left text [] whole is so = sym (append-nil text) ∙ so
none-left text (b ∷ rest) whole is so = absurd (omega (arith, is))
