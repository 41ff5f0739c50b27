-- The next hole and the next data of a file (lseek(2), SEEK_HOLE and SEEK_DATA). The end counts as a hole.
use Rattle.std.specs.Prelude.{◌≡◌, ℕ, ◌<◌, ◌≤◌, true, false, List, length, Option, MatchOption}
use Rattle.vub_sparse.specs.Cells.{Cell, cell_at, is_hole}

-- p is the first place from the offset on, up to the end, that is a hole
pub record IsFirstHole (cells : List Cell) (offset p : ℕ) : Type 0 where
  pub from : offset ≤ p
  pub within : p ≤ length cells
  pub found : p < length cells → is_hole (cell_at cells p) ≡ true
  pub first : (k : ℕ) → offset ≤ k → k < p → is_hole (cell_at cells k) ≡ false

-- p is the first place from the offset on that holds a byte
pub record IsFirstData (cells : List Cell) (offset p : ℕ) : Type 0 where
  pub from : offset ≤ p
  pub within : p < length cells
  pub found : is_hole (cell_at cells p) ≡ false
  pub first : (k : ℕ) → offset ≤ k → k < p → is_hole (cell_at cells k) ≡ true

-- the next hole, or nothing exactly where the offset is at or past the end
abbrev pub FindsHole : List Cell → ℕ → Option ℕ → Type 0
FindsHole cells offset r =
    MatchOption r (length cells ≤ offset) (λ p. (offset < length cells) × IsFirstHole cells offset p)

-- the next data, or nothing exactly where none follows
abbrev pub FindsData : List Cell → ℕ → Option ℕ → Type 0
FindsData cells offset r =
    MatchOption r ((k : ℕ) → offset ≤ k → k < length cells → is_hole (cell_at cells k) ≡ true)
    (IsFirstData cells offset)
