-- A word of a shared log: its bits, its generation, and the harvests of one word.
use Rattle.std.proofs.Common.{◌≡◌, ◌≢◌, ◌⊎◌, ℕ, ◌+◌, ◌*◌, ◌/◌, ◌%◌, ◌^◌, ◌<◌, max, cond, Bool, true, false, eqb, eq-eqb, ne_eqb, List, [], ◌∷◌, ◌++◌, length, get_or, refl, sym, ap, ◌∙◌, subst, inl, inr, arith}
use Rattle.std.specs.Int.{bit_at, w64}
use Rattle.std.specs.Prelude.{bit_or}
use Rattle.std.specs.Int.Bits.{or_zero_r}
use Rattle.std.proofs.lemmas.Nat.{or_shr, one_shl, pow_below, div-add-mod', mod_below}
use Rattle.std.proofs.lemmas.Nat.Bits.{bit_at_or, bit_at_set_same, bit_at-lt, bit_at-zero, bit_at_cat_low, bit_at-pow_same, bit_at-pow_other}
use Rattle.std.proofs.Math.ListN.{get_or-append}
use Rattle.std.proofs.Math.Seq.{get_or-append_seam}
use native.Mathlib.Decide.{ℕ_discrete}
use mathlib.Core.Logic.{dite}
use Rattle.vub_log.specs.declared.notes.HarvestNote.{HarvestNote}
use Rattle.vub_log.specs.Notes.{generation_of, bits_of, harvests_of, harvest_note, HoldsIn}
use Rattle.vub_log.specs.Rule.{next_word}

-- ---- the mask of a bit

abbrev pub mask : ℕ → ℕ
mask b = (1 * 2 ^ b) % 2 ^ 64

mask_is : (b : ℕ) → b < 32 → mask b ≡ 2 ^ b
mask_is b h = one_shl b 64 (omega arith)

small_div : (m : ℕ) → m < 2 ^ 32 → m / 2 ^ 32 ≡ 0
small_div m h = omega arith

pub mask_generation : (n b : ℕ) → b < 32 → generation_of (bit_or n (mask b)) ≡ generation_of n
mask_generation n b h =
    let low : 2 ^ b < 2 ^ 32 = pow_below b 32 h in
    let none : mask b / 2 ^ 32 ≡ 0 = ap (λ (k : ℕ). k / 2 ^ 32) (mask_is b h) ∙ small_div (2 ^ b) low in
    or_shr n (mask b) 32 ∙ (ap (bit_or (n / 2 ^ 32)) none ∙ or_zero_r (n / 2 ^ 32))

max_one : (x y : ℕ) → x ≡ 1 → y < 2 → max x y ≡ 1
max_one x y e h = subst (λ (k : ℕ). max k y ≡ 1) (sym e) (omega arith)

mask_keeps : (n b c : ℕ) → bit_at n c ≡ 1 → bit_at (bit_or n (mask b)) c ≡ 1
mask_keeps n b c e = bit_at_or n (mask b) c ∙ max_one (bit_at n c) (bit_at (mask b) c) e (bit_at-lt (mask b) c)

mask_sets : (n b : ℕ) → b < 32 → bit_at (bit_or n (mask b)) b ≡ 1
mask_sets n b h = bit_at_set_same w64 n b (omega arith)

mask_other : (n b c : ℕ) → b < 32 → c ≢ b → bit_at (bit_or n (mask b)) c ≡ bit_at n c
mask_other n b c h apart =
    let none : bit_at (mask b) c ≡ 0 = ap (λ (k : ℕ). bit_at k c) (mask_is b h) ∙ bit_at-pow_other b c apart in
    bit_at_or n (mask b) c ∙ (ap (λ (k : ℕ). max (bit_at n c) k) none ∙ (let e : max (bit_at n c) 0 ≡ bit_at n c = omega arith in e))

zero_one : (x : ℕ) → x ≡ 0 → x ≡ 1 → ⊥
zero_one x e f = omega arith

-- two bits with one mask are one
mask_one : (a b : ℕ) → a < 32 → b < 32 → mask a ≡ mask b → a ≡ b
mask_one a b h k e = dite (ℕ_discrete a b) (λ same. same) (λ apart.
    let p : 2 ^ b ≡ 2 ^ a = sym (mask_is b k) ∙ (sym e ∙ mask_is a h) in
    absurd (zero_one (bit_at (2 ^ b) a) (bit_at-pow_other b a apart) (ap (λ (x : ℕ). bit_at x a) p ∙ bit_at-pow_same a)))

-- two pages of one word with one mask are one
pub page_one : (p q : ℕ) → p / 32 ≡ q / 32 → mask (p % 32) ≡ mask (q % 32) → p ≡ q
page_one p q e f =
    let m : p % 32 ≡ q % 32 = mask_one (p % 32) (q % 32) (mod_below p 32 (omega arith)) (mod_below q 32 (omega arith)) f in
    let a = div-add-mod' p 32 in let b = div-add-mod' q 32 in omega arith

-- ---- what holds in a word, before and after a mark

pub holds_marked : (n b : ℕ) (old : List ℕ) (c g : ℕ) → b < 32 → HoldsIn n old c g → HoldsIn (bit_or n (mask b)) old c g
holds_marked n b old c g h (inl x) = inl (x.0 ∙ sym (mask_generation n b h), mask_keeps n b c x.1)
holds_marked n b old c g h (inr x) = inr (subst (λ (k : ℕ). g < k) (sym (mask_generation n b h)) x.0, x.1)

pub mark_holds : (n b : ℕ) (old : List ℕ) → b < 32 → HoldsIn (bit_or n (mask b)) old b (generation_of n)
mark_holds n b old h = inl (sym (mask_generation n b h), mask_sets n b h)

-- what holds after a mark held before, or is the mark
pub marked_held : (n b : ℕ) (old : List ℕ) (c g : ℕ) → b < 32 → HoldsIn (bit_or n (mask b)) old c g → HoldsIn n old c g ⊎ ((c ≡ b) × (g ≡ generation_of n))
marked_held n b old c g h (inl x) =
    let is : g ≡ generation_of n = x.0 ∙ mask_generation n b h in
    dite (ℕ_discrete c b) (λ same. inr (same, is)) (λ apart. inl (inl (is, sym (mask_other n b c h apart) ∙ x.1)))
marked_held n b old c g h (inr x) = inl (inr (subst (λ (k : ℕ). g < k) (mask_generation n b h) x.0, x.1))

-- ---- the same of a harvest

pub next_generation : (g : ℕ) → generation_of (next_word g) ≡ g + 1
next_generation g = omega arith

low_bits : (n c : ℕ) → c < 32 → bit_at (bits_of n) c ≡ bit_at n c
low_bits n c h = sym (bit_at_cat_low (n / 2 ^ 32) 32 (n % 2 ^ 32) c h) ∙ ap (λ (k : ℕ). bit_at k c) (div-add-mod' n (2 ^ 32))

pub bits_low : (n c : ℕ) → c < 32 → bit_at n c ≡ 1 → bit_at (bits_of n) c ≡ 1
bits_low n c h e = low_bits n c h ∙ e

pub bits_high : (n c : ℕ) → c < 32 → bit_at (bits_of n) c ≡ 1 → bit_at n c ≡ 1
bits_high n c h e = sym (low_bits n c h) ∙ e

next_bits : (g c : ℕ) → c < 32 → bit_at (next_word g) c ≡ 0
next_bits g c h = ap (λ (k : ℕ). bit_at k c) (let e : next_word g ≡ (g + 1) * 2 ^ 32 + 0 = omega arith in e) ∙ (bit_at_cat_low (g + 1) 32 0 c h ∙ bit_at-zero c)

pub length_snoc : (xs : List ℕ) (y : ℕ) → length (xs ++ y ∷ []) ≡ length xs + 1
length_snoc [] y = refl
length_snoc (x ∷ xs) y = let h = length_snoc xs y in omega arith

-- what holds in a word is in the harvest of its number once the word is harvested
pub in_harvest : (n : ℕ) (old : List ℕ) (c g : ℕ) → c < 32 → generation_of n ≡ length old → HoldsIn n old c g → (g < length old + 1) × (bit_at (get_or (old ++ bits_of n ∷ []) g 0) c ≡ 1)
in_harvest n old c g h len (inl x) =
    let here : g ≡ length old = x.0 ∙ len in (
      subst (λ (k : ℕ). k < length old + 1) (sym here) (omega arith),
      subst (λ (k : ℕ). bit_at (get_or (old ++ bits_of n ∷ []) k 0) c ≡ 1) (sym here) (ap (λ (k : ℕ). bit_at k c) (get_or-append_seam old (bits_of n) [] 0) ∙ bits_low n c h x.1),
    )
in_harvest n old c g h len (inr x) =
    let lt : g < length old = subst (λ (k : ℕ). g < k) len x.0 in (
      omega arith,
      ap (λ (k : ℕ). bit_at k c) (get_or-append old (bits_of n ∷ []) 0 g lt) ∙ x.1,
    )

pub holds_harvested : (n : ℕ) (old : List ℕ) (c g : ℕ) → c < 32 → generation_of n ≡ length old → HoldsIn n old c g → HoldsIn (next_word (generation_of n)) (old ++ bits_of n ∷ []) c g
holds_harvested n old c g h len x =
    let in_it = in_harvest n old c g h len x in
    let up : generation_of (next_word (generation_of n)) ≡ length old + 1 = next_generation (generation_of n) ∙ ap (λ (k : ℕ). k + 1) len in
    inr (subst (λ (k : ℕ). g < k) (sym up) in_it.0, in_it.1)

pub harvested_held : (n : ℕ) (old : List ℕ) (c g : ℕ) → c < 32 → generation_of n ≡ length old → HoldsIn (next_word (generation_of n)) (old ++ bits_of n ∷ []) c g → HoldsIn n old c g
harvested_held n old c g h len (inl x) = absurd (zero_one (bit_at (next_word (generation_of n)) c) (next_bits (generation_of n) c h) x.1)
harvested_held n old c g h len (inr x) =
    let below : g < generation_of n + 1 = subst (λ (k : ℕ). g < k) (next_generation (generation_of n)) x.0 in
    dite (ℕ_discrete g (generation_of n))
    (λ same.
    let here : g ≡ length old = same ∙ len in
    inl (same, bits_high n c h (sym (ap (λ (k : ℕ). bit_at k c) (get_or-append_seam old (bits_of n) [] 0)) ∙ subst (λ (k : ℕ). bit_at (get_or (old ++ bits_of n ∷ []) k 0) c ≡ 1) here x.1)))
    (λ apart.
    let less : g < generation_of n = below_apart g (generation_of n) below apart in
    inr (less, sym (ap (λ (k : ℕ). bit_at k c) (get_or-append old (bits_of n ∷ []) 0 g (subst (λ (k : ℕ). g < k) len less))) ∙ x.1))
  where
    below_apart : (a b : ℕ) → a < b + 1 → a ≢ b → a < b
    below_apart a b l n = omega arith

-- nothing holds in a new word
pub none_holds : (n c g : ℕ) → n ≡ 0 → HoldsIn n [] c g → ⊥
none_holds n c g e (inl x) = zero_one (bit_at n c) (ap (λ (k : ℕ). bit_at k c) e ∙ bit_at-zero c) x.1
none_holds n c g e (inr x) = zero_one (bit_at 0 c) (bit_at-zero c) x.1

-- ---- the harvests of one word

put_snoc : (b : Bool) (x y : ℕ) (xs : List ℕ) → cond b (x ∷ xs ++ y ∷ []) (xs ++ y ∷ []) ≡ cond b (x ∷ xs) xs ++ y ∷ []
put_snoc true x y xs = refl
put_snoc false x y xs = refl

pub harvests_same : (hs : List HarvestNote) (w b : ℕ) → harvests_of w (hs ++ harvest_note w b ∷ []) ≡ harvests_of w hs ++ b ∷ []
harvests_same [] w b = ap (λ t. cond t (b ∷ []) []) (eq-eqb w w refl)
harvests_same (h ∷ hs) w b = ap (λ (l : List ℕ). cond (eqb h.word w) (h.bits ∷ l) l) (harvests_same hs w b) ∙ put_snoc (eqb h.word w) h.bits b (harvests_of w hs)

pub harvests_other : (hs : List HarvestNote) (w u b : ℕ) → u ≢ w → harvests_of w (hs ++ harvest_note u b ∷ []) ≡ harvests_of w hs
harvests_other [] w u b n = ap (λ t. cond t (b ∷ []) []) (ne_eqb u w n)
harvests_other (h ∷ hs) w u b n = ap (λ (l : List ℕ). cond (eqb h.word w) (h.bits ∷ l) l) (harvests_other hs w u b n)
