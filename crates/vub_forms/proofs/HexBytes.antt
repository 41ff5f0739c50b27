-- The bytes of a text of lower-case hexadecimal digits, two digits at a time.
use Rattle.std.proofs.Common.{◌≡◌, ℕ, ◌+◌, ◌*◌, ◌%◌, ◌==◌, ◌&&◌, if◌then◌else◌, Bool, true, false, List, [], ◌∷◌, ◌++◌, length, Option, Some, None, option_map, Result, Ok, Err, inl, inr, ◌⊎◌, refl, sym, ap, ◌∙◌, arith, append_assoc, append-nil, take, drop, slice_index, ◌-◌, ◌≤◌}
use Rattle.std.specs.List.{list_all}
use Rattle.std.specs.Result.{result_ok}
use Rattle.std.proofs.lemmas.List.{take_all}
use Rattle.std.proofs.lemmas.Bool.{cases_Bool, cases_eq}
use Rattle.hex.specs.declared.error.FromHexError.{FromHexError}
use Rattle.hex.specs.declared.error.FromHexError.TheVariants.{OddLength}
use Rattle.hex.specs.Hex.{decode_of, decode_pairs, digit_or_error, hex_digit_value, ◌>>=◌}
use Rattle.vub_forms.specs.Numbers.{is_lower_hex}
use Rattle.vub_forms.specs.Hexadecimal.{pair_byte, lower_pair, hex_bytes}

-- the bytes, whatever the index that an error would have
values : ℕ → List ℕ → Option (List ℕ)
values i ds = result_ok (decode_pairs i ds)

-- the byte of two digits in front of the bytes of the others
abbrev join : Option ℕ → Option ℕ → Option (List ℕ) → Option (List ℕ)
join (Some a) (Some b) (Some vs) = Some ((a * 16 + b) ∷ vs)
join (Some a) (Some b) None = None
join (Some a) None vs = None
join None low vs = None

joined : (h l i : ℕ) (high low : Option ℕ) (r : Result (List ℕ) FromHexError)
    → result_ok ((digit_or_error h i high >>= λ a. digit_or_error l (i + 1) low >>= λ b. Ok (a * 16 + b)) >>= λ byte. r >>= λ bytes. Ok (byte ∷ bytes)) ≡ join high low (result_ok r)
joined h l i (Some a) (Some b) (Ok vs) = refl
joined h l i (Some a) (Some b) (Err e) = refl
joined h l i (Some a) None r = refl
joined h l i None low r = refl

values-step : (i h l : ℕ) (rest : List ℕ) → values i (h ∷ l ∷ rest) ≡ join (hex_digit_value h) (hex_digit_value l) (values (i + 2) rest)
unfolding decode_pairs values
values-step i h l rest = joined h l i (hex_digit_value h) (hex_digit_value l) (decode_pairs (i + 2) rest)

values-shift : (i j : ℕ) (ds : List ℕ) → values i ds ≡ values j ds
unfolding decode_pairs values
values-shift i j [] = refl
values-shift i j (d ∷ []) = refl
values-shift i j (h ∷ l ∷ rest) = values-step i h l rest ∙ ap (join (hex_digit_value h) (hex_digit_value l)) (values-shift (i + 2) (j + 2) rest) ∙ sym (values-step j h l rest)

-- What a text gives

not-lower : (s : List ℕ) → list_all is_lower_hex s ≡ false → hex_bytes s ≡ None
unfolding hex_bytes
not-lower s is = ap (λ b. if b then result_ok (decode_of s) else None) is

odd-none : (s : List ℕ) → length s % 2 ≡ 1 → hex_bytes s ≡ None
unfolding hex_bytes
odd-none s odd =
    let none : result_ok (decode_of s) ≡ None = ap (λ n. result_ok (if n == 1 then Err OddLength else decode_pairs 0 s)) odd in
    elim (list_all is_lower_hex s) as (λ b. (if b then result_ok (decode_of s) else None) ≡ None) [ true ↦ none | false ↦ refl ]

whole : (s : List ℕ) → list_all is_lower_hex s ≡ true → length s % 2 ≡ 0 → hex_bytes s ≡ values 0 s
unfolding hex_bytes values
whole s all even = ap (λ b. if b then result_ok (decode_of s) else None) all ∙ ap (λ n. result_ok (if n == 1 then Err OddLength else decode_pairs 0 s)) even

parity : (n : ℕ) → (n % 2 ≡ 0) ⊎ (n % 2 ≡ 1)
parity n = elim (cases_eq (n % 2) 0) [ inl even ↦ inl even | inr odd ↦ inr (omega arith) ]

values-none : (s : List ℕ) → values 0 s ≡ None → hex_bytes s ≡ None
values-none s none =
    elim (cases_Bool (list_all is_lower_hex s)) [
      | inl all ↦ (elim (parity (length s)) [ inl even ↦ whole s all even ∙ none | inr odd ↦ odd-none s odd ])
      | inr some ↦ not-lower s some
    ]

-- two digits

abbrev held : Option ℕ → ℕ
held None = 0
held (Some n) = n

in-front : (a b v : ℕ) (vs : Option (List ℕ)) → a * 16 + b ≡ v → join (Some a) (Some b) vs ≡ option_map (λ more. v ∷ more) vs
in-front a b v (Some vs) is = ap (λ n. Some (n ∷ vs)) is
in-front a b v None is = refl

abbrev pair-of : Bool → Bool → Option ℕ → Option ℕ → Option ℕ
pair-of true true (Some a) (Some b) = Some (a * 16 + b)
pair-of true true (Some a) None = None
pair-of true true None low = None
pair-of true false high low = None
pair-of false is high low = None

is-pair-of : (bh bl : Bool) (high low : Option ℕ) → pair_byte (if bh then high else None) (if bl then low else None) ≡ pair-of bh bl high low
is-pair-of true true (Some a) (Some b) = refl
is-pair-of true true (Some a) None = refl
is-pair-of true true None low = refl
is-pair-of true false (Some a) low = refl
is-pair-of true false None low = refl
is-pair-of false bl high low = refl

pair-parts : (bh bl : Bool) (high low : Option ℕ) (v : ℕ) → pair-of bh bl high low ≡ Some v → (bh ≡ true) × (bl ≡ true) × ((vs : Option (List ℕ)) → join high low vs ≡ option_map (λ more. v ∷ more) vs)
pair-parts true true (Some a) (Some b) v is = (refl, refl, λ vs. in-front a b v vs (ap held is))
pair-parts true true (Some a) None v is = absurd cc
pair-parts true true None low v is = absurd cc
pair-parts true false high low v is = absurd cc
pair-parts false bl high low v is = absurd cc

all-behind : (h l : ℕ) (rest : List ℕ) → is_lower_hex h ≡ true → is_lower_hex l ≡ true → list_all is_lower_hex (h ∷ l ∷ rest) ≡ list_all is_lower_hex rest
all-behind h l rest high low = ap (λ b. b && (is_lower_hex l && list_all is_lower_hex rest)) high ∙ ap (λ b. b && list_all is_lower_hex rest) low

pub hex-pair : (h l v : ℕ) (rest : List ℕ) → Some v ≡ lower_pair h l → hex_bytes (h ∷ l ∷ rest) ≡ option_map (λ more. v ∷ more) (hex_bytes rest)
hex-pair h l v rest is =
    let parts = pair-parts (is_lower_hex h) (is_lower_hex l) (hex_digit_value h) (hex_digit_value l) v (sym (is-pair-of (is_lower_hex h) (is_lower_hex l) (hex_digit_value h) (hex_digit_value l)) ∙ sym is) in
    let all = all-behind h l rest parts.0 parts.1 in
    elim (cases_Bool (list_all is_lower_hex rest)) [
      | inr some ↦ not-lower (h ∷ l ∷ rest) (all ∙ some) ∙ ap (option_map (λ more. v ∷ more)) (sym (not-lower rest some))
      | inl each ↦ (elim (parity (length rest)) [
        | inr odd ↦ odd-none (h ∷ l ∷ rest) (omega (arith, odd)) ∙ ap (option_map (λ more. v ∷ more)) (sym (odd-none rest odd))
        | inl even ↦ whole (h ∷ l ∷ rest) (all ∙ each) (omega (arith, even)) ∙ values-step 0 h l rest ∙ parts.2 (values 2 rest)
            ∙ ap (option_map (λ more. v ∷ more)) (values-shift 2 0 rest ∙ sym (whole rest each even))
      ])
    ]

join-none : (bh bl : Bool) (high low : Option ℕ) (vs : Option (List ℕ)) → pair-of bh bl high low ≡ None → (bh ≡ false) ⊎ (bl ≡ false) ⊎ (join high low vs ≡ None)
join-none true true (Some a) (Some b) vs is = absurd cc
join-none true true (Some a) None vs is = inr (inr refl)
join-none true true None low vs is = inr (inr refl)
join-none true false high low vs is = inr (inl refl)
join-none false bl high low vs is = inl refl

pub hex-bad : (h l : ℕ) (rest : List ℕ) → None ≡ lower_pair h l → hex_bytes (h ∷ l ∷ rest) ≡ None
hex-bad h l rest is =
    elim (join-none (is_lower_hex h) (is_lower_hex l) (hex_digit_value h) (hex_digit_value l) (values 2 rest) (sym (is-pair-of (is_lower_hex h) (is_lower_hex l) (hex_digit_value h) (hex_digit_value l)) ∙ sym is)) [
      | inl high ↦ not-lower (h ∷ l ∷ rest) (ap (λ b. b && (is_lower_hex l && list_all is_lower_hex rest)) high)
      | inr (inl low) ↦ not-lower (h ∷ l ∷ rest) (elim (is_lower_hex h) as (λ b. (b && (is_lower_hex l && list_all is_lower_hex rest)) ≡ false) [ true ↦ ap (λ b. b && list_all is_lower_hex rest) low | false ↦ refl ])
      | inr (inr none) ↦ values-none (h ∷ l ∷ rest) (values-step 0 h l rest ∙ none)
    ]

pub hex-end : hex_bytes [] ≡ Some []
unfolding hex_bytes decode_pairs
hex-end = refl

pub hex-one : (s : List ℕ) → length s ≡ 1 → hex_bytes s ≡ None
hex-one s one = odd-none s (omega (arith, one))

-- the bytes so far, and behind them one more
pub onward : (bs : List ℕ) (v : ℕ) (o : Option (List ℕ)) → option_map (λ more. (bs ++ v ∷ []) ++ more) o ≡ option_map (λ more. bs ++ more) (option_map (λ more. v ∷ more) o)
onward bs v (Some vs) = ap Some (append_assoc bs (v ∷ []) vs)
onward bs v None = refl

-- What the loop over the pairs keeps

module _ (bs rest text : List ℕ) (o : Option ℕ) (is : o ≡ lower_pair (slice_index rest 0) (slice_index rest 1)) (so : option_map (λ more. bs ++ more) (hex_bytes rest) ≡ hex_bytes text) (long : 2 ≤ length rest) where
  pub pair-step : (v : ℕ) (next : List ℕ) → o ≡ Some v → next ≡ bs ++ v ∷ [] → option_map (λ more. next ++ more) (hex_bytes (take (length rest - 2) (drop 2 rest))) ≡ hex_bytes text
  pair-step v next some grown = by-rest rest is so long
    where
      by-rest : (r : List ℕ) → o ≡ lower_pair (slice_index r 0) (slice_index r 1) → option_map (λ more. bs ++ more) (hex_bytes r) ≡ hex_bytes text → 2 ≤ length r
          → option_map (λ more. next ++ more) (hex_bytes (take (length r - 2) (drop 2 r))) ≡ hex_bytes text
      by-rest [] at kept many = absurd (omega arith)
      by-rest (h ∷ []) at kept many = absurd (omega arith)
      by-rest (h ∷ l ∷ more) at kept many =
          let count : length (h ∷ l ∷ more) - 2 ≡ length more = omega arith in
          ap (λ n. option_map (λ ds. next ++ ds) (hex_bytes (take n more))) count ∙ ap (λ ds. option_map (λ vs. next ++ vs) (hex_bytes ds)) (take_all (length more) more (omega arith))
          ∙ ap (λ front. option_map (λ vs. front ++ vs) (hex_bytes more)) grown ∙ onward bs v (hex_bytes more) ∙ ap (option_map (λ vs. bs ++ vs)) (sym (hex-pair h l v more (sym some ∙ at))) ∙ kept

  pub pair-bad : o ≡ None → hex_bytes text ≡ None
  pair-bad none = by-rest rest is so long
    where
      by-rest : (r : List ℕ) → o ≡ lower_pair (slice_index r 0) (slice_index r 1) → option_map (λ more. bs ++ more) (hex_bytes r) ≡ hex_bytes text → 2 ≤ length r → hex_bytes text ≡ None
      by-rest [] at kept many = absurd (omega arith)
      by-rest (h ∷ []) at kept many = absurd (omega arith)
      by-rest (h ∷ l ∷ more) at kept many = sym kept ∙ ap (option_map (λ vs. bs ++ vs)) (hex-bad h l more (sym none ∙ at))

pub none-left : (bs rest whole : List ℕ) → option_map (λ more. bs ++ more) (hex_bytes rest) ≡ hex_bytes whole → length rest ≡ 0 → hex_bytes whole ≡ Some bs
none-left bs [] whole so none = sym so ∙ ap (option_map (λ vs. bs ++ vs)) hex-end ∙ ap Some (append-nil bs)
none-left bs (h ∷ rest) whole so none = absurd (omega (arith, none))

pub one-left : (bs rest whole : List ℕ) → option_map (λ more. bs ++ more) (hex_bytes rest) ≡ hex_bytes whole → length rest ≡ 1 → hex_bytes whole ≡ None
one-left bs rest whole so one = sym so ∙ ap (option_map (λ vs. bs ++ vs)) (hex-one rest one)
