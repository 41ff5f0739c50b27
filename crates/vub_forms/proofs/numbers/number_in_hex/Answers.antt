use Rattle.std.proofs.Common.{rules, ◌≡◌, ◌^◌, ◌<◌, List, ℕ, true, sym, subst}
use Rattle.std.specs.Str.Parse.{IsNumeral, digits_value, without_leading_plus}
use Rattle.vub_forms.specs.Numbers.{is_hex_number}
use Rattle.vub_forms.proofs.Digits.{is_read}
use Rattle.vub_forms.proofs.numbers.number_in_hex.Goals as goal

pub returns-in-Err : goal.returns-in-Err
returns-in-Err c =
    let number : is_hex_number c.args.text.now ≡ true = search rules in
    let P : List ℕ → Type 0 = λ l. IsNumeral 16 (without_leading_plus l) × (digits_value 16 (without_leading_plus l) < 2 ^ 64) in
    absurd (c.in-Err.ensures.value (subst P (sym c.range_from.ensures.value) (is_read c.args.text.now number)))
