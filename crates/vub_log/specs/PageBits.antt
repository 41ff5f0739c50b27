-- Lemmas on the bits of pages, in words and in bytes, and on what calls do to them.
use Rattle.std.proofs.Common.{◌≡◌, ◌≢◌, ℕ, ◌+◌, ◌*◌, ◌/◌, ◌%◌, ◌^◌, ◌<◌, max, inl, inr, Bool, true, false, cond, Ok}
use Rattle.std.proofs.Common.{List, [], ◌∷◌, refl, sym, ap, ap₂, subst, ◌∙◌, arith, eqb, length, get_or, set}
use Rattle.std.proofs.Common.{length-set}
use Rattle.std.specs.Int.{bit_at}
use Rattle.std.specs.Prelude.{bit_or}
use Rattle.std.proofs.lemmas.Bool.{cases_Bool, cond-true, cond-false, eqb-true, eqb-false, eq-eqb, ne_eqb}
use Rattle.std.proofs.lemmas.List.{get_or-set_same, get_or-set_other}
use Rattle.std.proofs.lemmas.Nat.{pow-add}
use Rattle.std.proofs.lemmas.Nat.Bits.{bit_at_or, bit_at-lt, bit_at-zero, bit_at-pow_same, bit_at-pow_other}
use Rattle.std.proofs.lemmas.Nat.Bits.{bit_at_cat_low}
use Rattle.std.proofs.Math.Nat.{div-div-eq-div-mul}
use Rattle.vub_log.specs.declared.laws.LogOp.{LogOp}
use Rattle.vub_log.specs.declared.laws.LogOp.TheVariants.{Mark, Load, Harvest}
use Rattle.vub_log.specs.Plain.{Plain, word_of, harvest_count, page_bit, marked, harvested, byte_of, told_bits, IsMark}
use Rattle.vub_log.specs.Plain.{IsHarvest}
use Rattle.vub_mem.specs.LogBits.{MarksPage, LoadsByte, HarvestsBits, HarvestsWord}
use Rattle.vub_log.specs.Since.{step, after, bit_after, bit_since}

byte_bit : (x b : ℕ) → b < 8 → x % 256 / 2 ^ b % 2 ≡ x / 2 ^ b % 2
byte_bit x b h =
    sym
    (ap (λ k. bit_at k b) (let e : x ≡ x / 256 * 2 ^ 8 + x % 256 = omega arith in e) ∙ bit_at_cat_low (x / 256) 8
    (x % 256) b h)

shifted : (w s b : ℕ) → w / 2 ^ s / 2 ^ b ≡ w / 2 ^ (s + b)
shifted w s b = div-div-eq-div-mul w (2 ^ s) (2 ^ b) ∙ ap (λ k. w / k) (sym (pow-add 2 s b))

pub byte_has_bit : (log : Plain) (page : ℕ) → byte_of log (page / 8) / 2 ^ (page % 8) % 2 ≡ page_bit log page
byte_has_bit log page =
    let word : page / 8 / 4 ≡ page / 32 = omega arith in
    let bit : 8 * (page / 8 % 4) + page % 8 ≡ page % 32 = omega arith in
    byte_bit (word_of log (page / 8 / 4) / 2 ^ (8 * (page / 8 % 4))) (page % 8) (omega arith)
    ∙ ap (λ k. k % 2) (shifted (word_of log (page / 8 / 4)) (8 * (page / 8 % 4)) (page % 8))
    ∙ ap₂ (λ i k. bit_at (word_of log i) k) word bit

pages_differ : (p q : ℕ) → (p ≡ q → ⊥) → p / 32 ≡ q / 32 → q % 32 ≡ p % 32 → ⊥
pages_differ p q apart e f = apart (omega arith)

or_other : (w k i : ℕ) → i ≢ k → bit_at (bit_or w (2 ^ k)) i ≡ bit_at w i
or_other w k i apart =
    bit_at_or w (2 ^ k) i ∙
    (let none : bit_at (2 ^ k) i ≡ 0 = bit_at-pow_other k i apart in ap
    (λ b. max (bit_at w i) b) none ∙ (let e : max (bit_at w i) 0 ≡ bit_at w i = omega arith in e))

or_same : (w k : ℕ) → bit_at (bit_or w (2 ^ k)) k ≡ 1
or_same w k =
    bit_at_or w (2 ^ k) k ∙
    (ap (λ b. max (bit_at w k) b) (bit_at-pow_same k) ∙
    (let small : bit_at w k < 2 = bit_at-lt w k in let e : max (bit_at w k) 1 ≡ 1 = omega arith in e))

-- a mark of page p sets its bit and no other; the word of p is there where it is that of the page
mark_bit_at :
    (log : Plain) (p page : ℕ) → (p / 32 ≡ page / 32 → page / 32 < length log.words) →
    page_bit (marked log p) page ≡ cond (eqb p page) 1 (page_bit log page)
mark_bit_at log p page there =
    elim (cases_Bool (eqb p page)) [
      | inl t ↦ (let same : p ≡ page = eqb-true p page t in
          let below : page / 32 < length log.words = there (ap (λ k. k / 32) same) in
          ap
          (λ k. bit_at (get_or (set log.words (k / 32) (bit_or (word_of log (k / 32)) (2 ^ (k % 32)))) (page / 32) 0)
          (page % 32))
          same
          ∙ ap (λ w. bit_at w (page % 32))
          (get_or-set_same log.words (page / 32) (bit_or (word_of log (page / 32)) (2 ^ (page % 32))) 0 below)
          ∙ or_same (word_of log (page / 32)) (page % 32)
          ∙ sym (cond-true (eqb p page) 1 (page_bit log page) t))
      | inr f ↦ (let apart : p ≡ page → ⊥ = eqb-false p page f in
          elim (cases_Bool (eqb (p / 32) (page / 32))) [
            | inl t ↦ (let same : p / 32 ≡ page / 32 = eqb-true (p / 32) (page / 32) t in
                let below : page / 32 < length log.words = there same in
                ap
                (λ k. bit_at (get_or (set log.words k (bit_or (word_of log k) (2 ^ (p % 32)))) (page / 32) 0)
                (page % 32))
                same
                ∙ ap (λ w. bit_at w (page % 32))
                (get_or-set_same log.words (page / 32) (bit_or (word_of log (page / 32)) (2 ^ (p % 32))) 0 below)
                ∙ or_other (word_of log (page / 32)) (p % 32) (page % 32) (λ e. pages_differ p page apart same e)
                ∙ sym (cond-false (eqb p page) 1 (page_bit log page) f))
            | inr g ↦ (let other : p / 32 ≡ page / 32 → ⊥ = eqb-false (p / 32) (page / 32) g in
                ap (λ w. bit_at w (page % 32))
                (get_or-set_other log.words (p / 32) (page / 32) (bit_or (word_of log (p / 32)) (2 ^ (p % 32))) 0
                (λ e. other (sym e)))
                ∙ sym (cond-false (eqb p page) 1 (page_bit log page) f))
          ])
    ]

mark_bit :
    (log : Plain) (p page : ℕ) → page < 32 * length log.words →
    page_bit (marked log p) page ≡ cond (eqb p page) 1 (page_bit log page)
mark_bit log p page h = mark_bit_at log p page (λ same. omega (arith, h))

-- a harvest of a word clears the bits of its pages and no other
harvest_bit_at :
    (log : Plain) (w page : ℕ) → (w ≡ page / 32 → page / 32 < length log.words) →
    page_bit (harvested log w) page ≡ cond (eqb w (page / 32)) 0 (page_bit log page)
harvest_bit_at log w page there =
    elim (cases_Bool (eqb w (page / 32))) [
      | inl t ↦ (let same : w ≡ page / 32 = eqb-true w (page / 32) t in
          let below : page / 32 < length log.words = there same in
          ap (λ k. bit_at (get_or (set log.words k 0) (page / 32) 0) (page % 32)) same
          ∙ ap (λ k. bit_at k (page % 32)) (get_or-set_same log.words (page / 32) 0 0 below)
          ∙ bit_at-zero (page % 32)
          ∙ sym (cond-true (eqb w (page / 32)) 0 (page_bit log page) t))
      | inr f ↦ (let apart : w ≡ page / 32 → ⊥ = eqb-false w (page / 32) f in
          ap (λ k. bit_at k (page % 32)) (get_or-set_other log.words w (page / 32) 0 0 (λ e. apart (sym e)))
          ∙ sym (cond-false (eqb w (page / 32)) 0 (page_bit log page) f))
    ]

harvest_bit :
    (log : Plain) (w page : ℕ) → page < 32 * length log.words →
    page_bit (harvested log w) page ≡ cond (eqb w (page / 32)) 0 (page_bit log page)
harvest_bit log w page h = harvest_bit_at log w page (λ same. omega (arith, h))

step_bit :
    (log : Plain) (op : LogOp) (page : ℕ) → page < 32 * length log.words →
    page_bit (step log op) page ≡ bit_after (page_bit log page) op page
step_bit log (Mark p) page h = mark_bit log p page h
step_bit log (Load byte) page h = refl
step_bit log (Harvest w) page h = harvest_bit log w page h

step_length : (log : Plain) (op : LogOp) → length (step log op).words ≡ length log.words
step_length log (Mark p) = length-set log.words (p / 32) (bit_or (word_of log (p / 32)) (2 ^ (p % 32)))
step_length log (Load byte) = refl
step_length log (Harvest w) = length-set log.words w 0

pub stands_since :
    (log : Plain) (ops : List LogOp) (page : ℕ) → page < 32 * length log.words →
    page_bit (after log ops) page ≡ bit_since (page_bit log page) ops page
stands_since log [] page h = refl
stands_since log (op ∷ ops) page h =
    stands_since (step log op) ops page (omega (arith, step_length log op))
    ∙ ap (λ b. bit_since b ops page) (step_bit log op page h)

bit_true : (b : Bool) (x y z : ℕ) → z ≡ cond b x y → b ≡ true → z ≡ x
bit_true b x y z e t = e ∙ cond-true b x y t

bit_false : (b : Bool) (x y z : ℕ) → z ≡ cond b x y → b ≡ false → z ≡ y
bit_false b x y z e f = e ∙ cond-false b x y f

marked_bits :
    (old : Plain) (page : ℕ) → page < 32 * length old.words →
    MarksPage page (told_bits old) (told_bits (marked old page))
marked_bits old page within = record {
  set = bit_true (eqb page page) 1 (page_bit old page) (page_bit (marked old page) page) (mark_bit old page page within)
      (eq-eqb page page refl);
  rest = λ other apart. bit_false (eqb page other) 1 (page_bit old other) (page_bit (marked old page) other)
      (mark_bit_at old page other (λ same. omega (arith, within, same))) (ne_eqb page other (λ e. apart (sym e)));
  counts = λ word. refl;
}

pub marks_page :
    (old : Plain) (page : ℕ) (new : Plain) → IsMark old page new → MarksPage page (told_bits old) (told_bits new)
marks_page old page new h =
    subst (λ (log : Plain). MarksPage page (told_bits old) (told_bits log)) (sym h.after)
    (marked_bits old page h.within)

pub loads_byte :
    (old : Plain) (byte number : ℕ) (new : Plain) → (number ≡ byte_of old byte) × (new ≡ old) →
    LoadsByte byte number (told_bits old) (told_bits new)
loads_byte old byte number new h = record {
  bits = λ i small.
      (let at : (8 * byte + i) / 8 ≡ byte = omega (arith, small) in
      let place : (8 * byte + i) % 8 ≡ i = omega (arith, small) in
      ap (λ n. bit_at n i) h.0
      ∙ sym (ap₂ (λ k j. bit_at (byte_of old k) j) at place)
      ∙ byte_has_bit old (8 * byte + i));
  same = ap (λ log. told_bits log) h.1;
}

harvested_bits :
    (old : Plain) (word : ℕ) → word < length old.words → word < length old.counts →
    HarvestsBits word (word_of old word) (told_bits old) (told_bits (harvested old word))
harvested_bits old word within counted = record {
  bits = λ i small.
      (let at : (32 * word + i) / 32 ≡ word = omega (arith, small) in
      let place : (32 * word + i) % 32 ≡ i = omega (arith, small) in
      sym (ap₂ (λ k j. bit_at (word_of old k) j) at place));
  cleared = λ page same. bit_true (eqb word (page / 32)) 0 (page_bit old page) (page_bit (harvested old word) page)
      (harvest_bit_at old word page (λ e. omega (arith, within, same))) (eq-eqb word (page / 32) (sym same));
  rest = λ page apart. bit_false (eqb word (page / 32)) 0 (page_bit old page) (page_bit (harvested old word) page)
      (harvest_bit_at old word page (λ e. absurd (apart (sym e)))) (ne_eqb word (page / 32) (λ e. apart (sym e)));
  count = get_or-set_same old.counts word (harvest_count old word + 1) 0 counted;
  counts = λ other apart. get_or-set_other old.counts word other (harvest_count old word + 1) 0 apart;
}

pub harvests_word :
    (old : Plain) (word number : ℕ) (new : Plain) → IsHarvest old word number new →
    HarvestsWord word (Ok number) (told_bits old) (told_bits new)
harvests_word old word number new h = (
  h.left,
  subst (λ (log : Plain). HarvestsBits word number (told_bits old) (told_bits log)) (sym h.after)
      (subst (λ n. HarvestsBits word n (told_bits old) (told_bits (harvested old word))) (sym h.gives)
      (harvested_bits old word h.within h.counted)),
)
