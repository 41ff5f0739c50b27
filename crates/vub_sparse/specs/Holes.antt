-- Holes as bits: one bit for each cell, in words of 64.
use Rattle.std.specs.Prelude.{◌≡◌, ◌==◌, ℕ, ◌+◌, ◌-◌, ◌*◌, ◌/◌, ◌%◌, ◌<◌, ◌≤◌, Bool, List, length, slice_index, true}
use Rattle.std.specs.Prelude.{if◌then◌else◌}
use Rattle.std.specs.Int.{bit_at}
use Rattle.vub_sparse.specs.Cells.{Cell, Hole, Byte, tabulated}

-- the bit of a cell
abbrev pub hole_bit : List ℕ → ℕ → Bool
hole_bit words k = bit_at (slice_index words (k / 64)) (k % 64) == 1

-- the bits of a range are this, and the others are as they were
pub record Marked (old new : List ℕ) (from to : ℕ) (hole : Bool) : Type 0 where
  pub long : length new ≡ length old
  pub inside : (k : ℕ) → from ≤ k → k < to → hole_bit new k ≡ hole
  pub before : (k : ℕ) → k < from → hole_bit new k ≡ hole_bit old k
  pub after : (k : ℕ) → to ≤ k → hole_bit new k ≡ hole_bit old k

-- the bytes of a range are what the function says of their places in it, and the others are as they were
pub record Put (old new : List ℕ) (offset count : ℕ) (f : ℕ → ℕ) : Type 0 where
  pub long : length new ≡ length old
  pub inside : (k : ℕ) → offset ≤ k → k < offset + count → slice_index new k ≡ f (k - offset)
  pub before : (k : ℕ) → k < offset → slice_index new k ≡ slice_index old k
  pub after : (k : ℕ) → offset + count ≤ k → slice_index new k ≡ slice_index old k

-- the cells that bytes and bits stand for
abbrev pub cell_of : List ℕ → List ℕ → ℕ → Cell
cell_of bytes words k = if hole_bit words k then Hole else Byte (slice_index bytes k)

abbrev pub cells_of : List ℕ → List ℕ → List Cell
cells_of bytes words = tabulated (length bytes) (cell_of bytes words)

-- each cell has a bit, and the byte behind a hole is 0
pub record Sound (bytes words : List ℕ) : Type 0 where
  pub covered : length bytes ≤ 64 * length words
  pub clean : (k : ℕ) → hole_bit words k ≡ true → k < length bytes → slice_index bytes k ≡ 0
