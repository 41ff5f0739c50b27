-- A set of numbers as words of 64 bits: number n is bit n % 64 of word n / 64, from the lowest bit up. A word that is
-- not there has no number.
use Rattle.std.specs.Prelude.{ℕ, ◌+◌, ◌*◌, ◌/◌, ◌%◌, ◌^◌, ◌<◌, ◌≤◌, ◌≡◌, ◌≢◌, Bool, if◌then◌else◌, ◌==◌, not}
use Rattle.std.specs.Prelude.{List, length, max, Option, Some, None, slice_index}
use Rattle.std.specs.Int.{bit_at}

-- the word of this number, from which on 64 numbers are counted
abbrev pub word_at : List ℕ → ℕ → ℕ
word_at words i = slice_index words i

-- 1 where the number is in the set, else 0
abbrev pub bit_in : List ℕ → ℕ → ℕ
bit_in words n = bit_at (word_at words (n / 64)) (n % 64)

-- 1 for true, 0 for false
abbrev pub as_bit : Bool → ℕ
as_bit b = if b then 1 else 0

-- each word is below 2 ^ 64
abbrev pub AreWords : List ℕ → Type 0
AreWords words = (i : ℕ) → word_at words i < 2 ^ 64

-- one number is put in or taken out, and nothing else changes
pub record PutsBit (old : List ℕ) (n : ℕ) (is_in : Bool) (new : List ℕ) : Type 0 where
  pub here : bit_in new n ≡ as_bit is_in
  pub others : (m : ℕ) → m ≢ n → bit_in new m ≡ bit_in old m
  pub words : (i : ℕ) → i ≢ n / 64 → word_at new i ≡ word_at old i
  pub same : length new ≡ length old

-- there may be more words, without a number
pub record MakesRoom (old : List ℕ) (n : ℕ) (new : List ℕ) : Type 0 where
  pub words : (i : ℕ) → word_at new i ≡ word_at old i
  pub grows : length old ≤ length new
  pub most : length new ≤ max (length old) (n / 64 + 1)

-- the number is the least of the set, and None says that the set has none
abbrev pub IsLeastIn : List ℕ → Option ℕ → Type 0
IsLeastIn words None = (n : ℕ) → bit_in words n ≡ 0
IsLeastIn words (Some n) = (bit_in words n ≡ 1) × ((m : ℕ) → m < n → bit_in words m ≡ 0)

-- a word in which one bit is set or cleared, and no other changed
pub record SetsBit (old bit : ℕ) (is_in : Bool) (new : ℕ) : Type 0 where
  pub here : bit_at new bit ≡ as_bit is_in
  pub others : (i : ℕ) → i < 64 → i ≢ bit → bit_at new i ≡ bit_at old i

-- the summary of words for numbers of 32 bits: the set of the numbers of those that are not 0, with room for each word
pub record IsSummary (words summary : List ℕ) : Type 0 where
  pub shows : (i : ℕ) → bit_in summary i ≡ as_bit (not (word_at words i == 0))
  pub has_room : length words ≤ 64 * length summary
  pub small : length words ≤ 2 ^ 26
