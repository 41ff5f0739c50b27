-- Runs of written bytes in one content.
use Rattle.std.specs.Prelude.{◌≡◌, ◌⊎◌, ℕ, ◌<◌, ◌≤◌, Bool, true, false, List, slice_index_or}

-- the bytes from start to end were written, and the content ends there or the next byte was not
pub record IsSpan (flags : List Bool) (start len end : ℕ) : Type 0 where
  pub some : start < end
  pub within : end ≤ len
  pub all : (place : ℕ) → start ≤ place → place < end → slice_index_or flags place false ≡ true
  pub stops : (end ≡ len) ⊎ (slice_index_or flags end false ≡ false)
