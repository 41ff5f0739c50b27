-- Layouts: numbers in little-endian order, one after the other (the structures of linux/fuse.h).
use Rattle.std.specs.Prelude.{ℕ, List, [], ◌∷◌, ◌++◌, drop}
use Rattle.std.specs.Int.{w16, w32, w64, to_le_bytes}
use Rattle.byteorder.specs.Endian.{little_number}
use Rattle.vub_dir.specs.declared.layout.Field.{Field}
use Rattle.vub_dir.specs.declared.layout.Field.TheVariants.{U16, U32, U64}

-- the bytes of a field, the least byte first
abbrev pub field_bytes : Field → List ℕ
field_bytes (U16 n) = to_le_bytes w16 n
field_bytes (U32 n) = to_le_bytes w32 n
field_bytes (U64 n) = to_le_bytes w64 n

-- the bytes of fields that stand one after the other
unfoldable pub fields_bytes : List Field → List ℕ
fields_bytes [] = []
fields_bytes (f ∷ fs) = field_bytes f ++ fields_bytes fs

-- the number in the 4 bytes from place at on, the least byte first; a byte past the end counts as 0
unfoldable pub u32_at : List ℕ → ℕ → ℕ
u32_at bytes at = little_number 4 (drop at bytes)

-- the number in the 8 bytes from place at on
unfoldable pub u64_at : List ℕ → ℕ → ℕ
u64_at bytes at = little_number 8 (drop at bytes)
