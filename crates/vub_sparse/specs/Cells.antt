-- A sparse file is a list of cells. Each is a byte or a hole; a hole is read as 0.
use Rattle.std.specs.Prelude.{ℕ, zero, suc, ◌+◌, ◌-◌, List, length, map, take, drop, min, max, Bool, true, false}
use Rattle.std.specs.Prelude.{nat_le, nat_lt, ◌&&◌, if◌then◌else◌, slice_index_or, slice_index}
use Rattle.std.specs.List.{range_with_len}

pub data Cell : Type 0 where
  Hole : Cell
  Byte : ℕ → Cell

-- the cell at a place; past the end there is nothing but a hole
abbrev pub cell_at : List Cell → ℕ → Cell
cell_at cells place = slice_index_or cells place Hole

-- what a cell is read as
abbrev pub byte_of : Cell → ℕ
byte_of Hole = 0
byte_of (Byte b) = b

abbrev pub is_hole : Cell → Bool
is_hole Hole = true
is_hole (Byte b) = false

-- at most so many bytes from this offset on
unfoldable pub bytes_from : ℕ → ℕ → List Cell → List ℕ
bytes_from offset most cells = take most (drop offset (map byte_of cells))

-- the list with this many cells, of which each is what the function says
abbrev pub tabulated : ℕ → (ℕ → Cell) → List Cell
tabulated n f = map f (range_with_len 0 n)

-- the cell at a place after the cells of a range were replaced
abbrev pub replaced_at : ℕ → ℕ → (ℕ → Cell) → List Cell → ℕ → Cell
replaced_at offset count f cells place =
    if nat_le offset place && nat_lt place (offset + count) then f (place - offset) else cell_at cells place

-- `count` cells from this offset on are replaced by what the function says of their places in the range. The file
-- grows to the range's end; the cells between its old end and the offset become holes
unfoldable pub replaced : ℕ → ℕ → (ℕ → Cell) → List Cell → List Cell
replaced offset count f cells = tabulated (max (length cells) (offset + count)) (replaced_at offset count f cells)

-- the same, where nothing to replace changes nothing
abbrev pub covered : ℕ → ℕ → (ℕ → Cell) → List Cell → List Cell
covered offset zero f cells = cells
covered offset (suc n) f cells = replaced offset (suc n) f cells

-- these bytes were written at this offset
abbrev pub written : ℕ → List ℕ → List Cell → List Cell
written offset bytes cells = covered offset (length bytes) (λ k. Byte (slice_index bytes k)) cells

-- this many zero bytes were written at this offset
abbrev pub zeroed : ℕ → ℕ → List Cell → List Cell
zeroed offset count cells = covered offset count (λ k. Byte 0) cells

-- what `set_cells` puts: a hole, or a byte 0
abbrev pub blank : Bool → Cell
blank hole = if hole then Hole else Byte 0

-- how much of a range lies inside a file of this length
abbrev pub inside : ℕ → ℕ → ℕ → ℕ
inside length offset count = min length (offset + count) - offset

-- the cells of the range are set; places past the end are left out where the size is kept
abbrev pub set : ℕ → ℕ → Bool → Bool → List Cell → List Cell
set offset count hole keep_size cells =
    covered offset (if keep_size then inside (length cells) offset count else count) (λ k. blank hole) cells

-- the file is cut to this length, or grows to it with holes
unfoldable pub resized : ℕ → List Cell → List Cell
resized n cells = tabulated n (cell_at cells)
