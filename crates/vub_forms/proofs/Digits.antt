-- A text of lower-case hexadecimal digits is a number that the standard library reads.
use Rattle.std.proofs.Common.{◌≡◌, ℕ, suc, ◌+◌, ◌*◌, ◌^◌, ◌<◌, ◌≤◌, lit<, List, [], ◌∷◌, length, drop, Bool, true, false, true≢false, ◌&&◌, nat_eq, cond, refl, sym, ap, subst, arith, length-drop}
use Rattle.std.proofs.Math.Nat.{pow-le-pow_right, pow-succ'}
use Rattle.std.proofs.lemmas.Bool.Decides.{nat_tests}
use Rattle.std.specs.List.{list_all}
use Rattle.std.specs.Char.{digit_value}
use Rattle.std.specs.Str.Parse.{AllDigits, IsNumeral, digits_value, digits_value_after, without_leading_plus}
use Rattle.vub_forms.specs.Numbers.{is_lower_hex, is_hex_number}

both : (a b : Bool) → (a && b) ≡ true → (a ≡ true) × (b ≡ true)
both true b h = (refl, h)
both false b h = absurd (true≢false (sym h))

digit_small : (c : ℕ) → is_lower_hex c ≡ true → digit_value c < 16
digit_small c h = grind (arith, nat_tests, h)

digit_no_plus : (c : ℕ) → is_lower_hex c ≡ true → nat_eq c 43 ≡ false
digit_no_plus c h = grind (arith, nat_tests, h)

all_digits : (ds : List ℕ) → list_all is_lower_hex ds ≡ true → AllDigits 16 ds
all_digits [] h = tt
all_digits (c ∷ cs) h = let parts = both (is_lower_hex c) (list_all is_lower_hex cs) h in (digit_small c parts.0, all_digits cs parts.1)

-- the parts of the test of a number in digits
digits_of : (s : List ℕ) → is_hex_number s ≡ true → (3 ≤ length s) × (length s ≤ 18) × (list_all is_lower_hex (drop 2 s) ≡ true)
digits_of s h = grind (arith, nat_tests, h)

no_plus : (ds : List ℕ) → list_all is_lower_hex ds ≡ true → without_leading_plus ds ≡ ds
no_plus [] h = refl
no_plus (c ∷ cs) h = ap (λ (b : Bool). drop (cond b 1 0) (c ∷ cs)) (digit_no_plus c (both (is_lower_hex c) (list_all is_lower_hex cs) h).0)

shifted : (m k : ℕ) → m * 16 * 16 ^ k ≡ m * 16 ^ suc k
shifted m k = rw (pow-succ' 16 k) (omega arith)

value_small : (ds : List ℕ) (n m : ℕ) → AllDigits 16 ds → n < m → digits_value_after 16 n ds < m * 16 ^ length ds
value_small [] n m all h = omega arith
value_small (c ∷ cs) n m all h =
    let step : n * 16 + digit_value c < m * 16 = omega (arith, all.0) in
    subst (λ (k : ℕ). digits_value_after 16 (n * 16 + digit_value c) cs < k) (shifted m (length cs)) (value_small cs (n * 16 + digit_value c) (m * 16) all.1 step)

value_fits : (ds : List ℕ) → length ds ≤ 16 → AllDigits 16 ds → digits_value 16 ds < 2 ^ 64
value_fits ds short all =
    let top : 16 ^ length ds ≤ 16 ^ 16 = pow-le-pow_right {n = 16} (lit< tt) {i = length ds} {j = 16} short in
    let small = value_small ds 0 1 all (lit< tt) in
    omega arith

-- the digits of a number are a numeral of 64 bits
pub is_read : (s : List ℕ) → is_hex_number s ≡ true → IsNumeral 16 (without_leading_plus (drop 2 s)) × (digits_value 16 (without_leading_plus (drop 2 s)) < 2 ^ 64)
is_read s h =
    let parts = digits_of s h in
    let all = all_digits (drop 2 s) parts.2 in
    let P : List ℕ → Type 0 = λ l. IsNumeral 16 l × (digits_value 16 l < 2 ^ 64) in
    let found : P (drop 2 s) = ((omega (arith, length-drop 2 s, parts.0), all), value_fits (drop 2 s) (omega (arith, length-drop 2 s, parts.1)) all) in
    subst P (sym (no_plus (drop 2 s) parts.2)) found
