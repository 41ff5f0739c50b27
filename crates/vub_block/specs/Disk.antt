-- A disk: a list of sectors, each of 512 cells that are a byte or a hole, and an id.
use Rattle.std.specs.Prelude.{◌≡◌, ℕ, ◌+◌, ◌/◌, nat_lt, Bool, ◌&&◌, if◌then◌else◌, List, ◌++◌, length, map, take, drop}
use Rattle.std.specs.Prelude.{true, [], replicate, slice_index_or, Option, Some, None}
use Rattle.std.specs.List.{All, list_all, flat_map}
use Rattle.std.specs.Simd.{first_chunks}
use Rattle.vub_sparse.specs.Cells.{Cell, byte_of, is_hole, blank}
use Rattle.vub_block.specs.declared.error.BlockError.{BlockError}
use Rattle.vub_block.specs.declared.error.BlockError.TheVariants.{TooBig, Id}
use Rattle.vub_block.specs.declared.types.TheConstants.{GREATEST_SECTORS, ID_LEN}

pub record Disk : Type 0 where
  -- the cells of each sector
  pub sectors : List (List Cell)
  -- the id as it was given, at most 20 bytes
  pub id : List ℕ

-- each sector has 512 cells
abbrev pub AreWhole : List (List Cell) → Type 0
AreWhole sectors = All (λ s. length s ≡ 512) sectors

-- the sectors that cells make which stand one after the other, 512 to each
unfoldable pub sectors_of : List Cell → List (List Cell)
sectors_of cells = first_chunks 512 (length cells / 512) cells

-- so many sectors whose cells are all holes, or all bytes 0
unfoldable pub blank_sectors : ℕ → Bool → List (List Cell)
blank_sectors count hole = replicate count (replicate 512 (blank hole))

-- the bytes of so many sectors from this one on, a hole read as 0
unfoldable pub bytes_of : ℕ → ℕ → List (List Cell) → List ℕ
bytes_of first count sectors = flat_map (map byte_of) (take count (drop first sectors))

-- these sectors stand in the place of as many from this one on
unfoldable pub replaced : ℕ → List (List Cell) → List (List Cell) → List (List Cell)
replaced first others sectors = take first sectors ++ others ++ drop (first + length others) sectors

-- every cell of the sector is a hole; false past the end
unfoldable pub is_hole_sector : List (List Cell) → ℕ → Bool
is_hole_sector sectors n = nat_lt n (length sectors) && list_all is_hole (slice_index_or sectors n [])

-- a new disk, all of holes
abbrev pub new_disk : ℕ → List ℕ → Disk
new_disk sectors id = record { sectors = blank_sectors sectors true; id = id }

-- the first test that a new disk of so many sectors, with an id of so many bytes, fails
abbrev pub new_fault : ℕ → ℕ → Option BlockError
new_fault sectors len =
    if nat_lt GREATEST_SECTORS sectors then Some TooBig else
    if nat_lt ID_LEN len then Some Id else None
