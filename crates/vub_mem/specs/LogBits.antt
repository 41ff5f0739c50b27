-- What a log of dirty pages may tell, and what each of its calls does to it.
use Rattle.std.specs.Prelude.{◌≡◌, ◌≢◌, ◌↔◌, ℕ, ◌+◌, ◌*◌, ◌/◌, ◌<◌, Option, IfSome, Result, Ok, Err}
use Rattle.std.specs.Int.{bit_at}
use Rattle.vub_base.specs.Told.{Told}
use Rattle.vub_mem.specs.declared.errors.LogError.{LogError}
use Rattle.vub_mem.specs.declared.errors.LogError.TheVariants.{EmptyLog, PastObject, NotPageAligned, TooSmall}
use Rattle.vub_mem.specs.declared.errors.LogError.TheVariants.{Unsupported, GenerationsSpent, OutOfMemory}

-- the bit of each page, 1 where it is marked and else 0, and how often each word was harvested: byte b holds pages 8 *
-- b to 8 * b + 7, and word w pages 32 * w to 32 * w + 31, each from its lowest bit on
pub record LogBits : Type 0 where
  pub bit : ℕ → ℕ
  pub harvests : ℕ → ℕ

-- a mark sets the bit of this page, and changes nothing else
pub record MarksPage (page : ℕ) (old new : LogBits) : Type 0 where
  pub set : new.bit page ≡ 1
  pub rest : (other : ℕ) → other ≢ page → new.bit other ≡ old.bit other
  pub counts : (word : ℕ) → new.harvests word ≡ old.harvests word

-- a load gives the bits of this byte, and changes nothing
pub record LoadsByte (byte number : ℕ) (old new : LogBits) : Type 0 where
  pub bits : (i : ℕ) → i < 8 → bit_at number i ≡ old.bit (8 * byte + i)
  pub same : new ≡ old

-- a harvest that is made gives the bits of this word, clears them and counts one more, and changes nothing else
pub record HarvestsBits (word number : ℕ) (old new : LogBits) : Type 0 where
  pub bits : (i : ℕ) → i < 32 → bit_at number i ≡ old.bit (32 * word + i)
  pub cleared : (page : ℕ) → page / 32 ≡ word → new.bit page ≡ 0
  pub rest : (page : ℕ) → page / 32 ≢ word → new.bit page ≡ old.bit page
  pub count : new.harvests word ≡ old.harvests word + 1
  pub counts : (other : ℕ) → other ≢ word → new.harvests other ≡ old.harvests other

-- the word was harvested as often as it can be
abbrev pub IsSpentWord : ℕ → LogBits → Type 0
IsSpentWord word log = log.harvests word ≡ 4294967295

-- a harvest is made of a word that is not spent, and refused of one that is; a refused one changes nothing
abbrev pub HarvestsWord : ℕ → Result ℕ LogError → LogBits → LogBits → Type 0
HarvestsWord word (Ok number) old new = (old.harvests word < 4294967295) × HarvestsBits word number old new
HarvestsWord word (Err GenerationsSpent) old new = IsSpentWord word old × (new ≡ old)
HarvestsWord word (Err EmptyLog) old new = ⊥
HarvestsWord word (Err PastObject) old new = ⊥
HarvestsWord word (Err NotPageAligned) old new = ⊥
HarvestsWord word (Err TooSmall) old new = ⊥
HarvestsWord word (Err Unsupported) old new = ⊥
HarvestsWord word (Err OutOfMemory) old new = ⊥

-- the bits of a log in which no page is marked and no word was harvested
abbrev pub no_bits : LogBits
no_bits = record { bit = λ page. 0; harvests = λ word. 0 }

-- where the bits are told, each mark of a page that a log has sets its bit, and changes nothing else
abbrev pub MarksTold : {L : Type 0} → (L → ℕ) → (L → Option LogBits) → (L → ℕ → L → Type 0) → Type 0
MarksTold {L} len told marks =
    (old : L) (page : ℕ) (new : L) → page < 8 * len old → marks old page new →
    Told (told old) (told new) (MarksPage page)

-- where the bits are told, each load of a byte that a log has gives its bits, and changes nothing
abbrev pub LoadsTold : {L : Type 0} → (L → ℕ) → (L → Option LogBits) → (L → ℕ → ℕ → L → Type 0) → Type 0
LoadsTold {L} len told loads =
    (old : L) (byte number : ℕ) (new : L) → byte < len old → loads old byte number new
    → Told (told old) (told new) (LoadsByte byte number)

-- where the bits are told, each harvest that is made of a word that a log has is as its definition says
abbrev pub HarvestsTold : {L : Type 0} → (L → ℕ) → (L → Option LogBits) → (L → ℕ → ℕ → L → Type 0) → Type 0
HarvestsTold {L} len told harvests =
    (old : L) (word number : ℕ) (new : L) → 4 * word < len old → harvests old word number new
    → Told (told old) (told new) (HarvestsWord word (Ok number))

-- where the counts are told, a word that a log has is spent exactly where its count is 4294967295
abbrev pub SpentTold : {L : Type 0} → (L → ℕ) → (L → Option LogBits) → (L → ℕ → Type 0) → Type 0
SpentTold {L} len told spent =
    (log : L) (word : ℕ) → 4 * word < len log → IfSome (told log) (λ bits. spent log word ↔ IsSpentWord word bits)
