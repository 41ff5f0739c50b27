-- The plain log: its words of 32 pages, and how often each was harvested.
use Rattle.std.specs.Prelude.{◌≡◌, ℕ, ◌+◌, ◌*◌, ◌/◌, ◌%◌, ◌^◌, ◌<◌, List, length, map, replicate, slice_index, slice_set}
use Rattle.std.specs.Prelude.{bit_or}
use Rattle.std.specs.Int.{bit_at}
use Rattle.std.specs.List.{range_with_len}
use Rattle.vub_mem.specs.LogBits.{LogBits}

pub record Plain : Type 0 where
  pub len : ℕ
  pub words : List ℕ
  pub counts : List ℕ

-- how many words of four bytes a log of this many bytes has
abbrev pub word_count : ℕ → ℕ
word_count len = (len + 3) / 4

-- the log in which no page is marked and no word was harvested
abbrev pub fresh : ℕ → Plain
fresh len = record { len = len; words = replicate (word_count len) 0; counts = replicate (word_count len) 0 }

-- the bits of a word
abbrev pub word_of : Plain → ℕ → ℕ
word_of log word = slice_index log.words word

-- how often a word was harvested
abbrev pub harvest_count : Plain → ℕ → ℕ
harvest_count log word = slice_index log.counts word

-- the bit of a page: 1 where it is marked
abbrev pub page_bit : Plain → ℕ → ℕ
page_bit log page = bit_at (word_of log (page / 32)) (page % 32)

-- the log after a mark of a page
abbrev pub marked : Plain → ℕ → Plain
marked log page =
    record log { words = slice_set log.words (page / 32) (bit_or (word_of log (page / 32)) (2 ^ (page % 32))) }

-- a byte of these words, which are little-endian
abbrev pub byte_in : List ℕ → ℕ → ℕ
byte_in words byte = slice_index words (byte / 4) / 2 ^ (8 * (byte % 4)) % 256

-- a byte of the log
abbrev pub byte_of : Plain → ℕ → ℕ
byte_of log byte = byte_in log.words byte

-- the bytes of the log, in order
abbrev pub bytes_of : Plain → List ℕ
bytes_of log = map (λ n. byte_of log n) (range_with_len 0 log.len)

-- the log after a harvest of a word
abbrev pub harvested : Plain → ℕ → Plain
harvested log word =
    record log { words = slice_set log.words word 0; counts = slice_set log.counts word (harvest_count log word + 1) }

-- what the log tells: the bit of each page, and how often each word was harvested
abbrev pub told_bits : Plain → LogBits
told_bits log = record { bit = λ page. page_bit log page; harvests = λ word. harvest_count log word }

-- a mark of a page that the log has
pub record IsMark (old : Plain) (page : ℕ) (new : Plain) : Type 0 where
  pub within : page < 32 * length old.words
  pub after : new ≡ marked old page

-- a harvest of a word that the log has and that is not spent
pub record IsHarvest (old : Plain) (word bits : ℕ) (new : Plain) : Type 0 where
  pub within : word < length old.words
  pub counted : word < length old.counts
  pub left : harvest_count old word < 4294967295
  pub gives : bits ≡ word_of old word
  pub after : new ≡ harvested old word
