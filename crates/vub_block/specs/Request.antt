-- A request: type u32, reserved u32, sector u64, data; and a piece of DISCARD and WRITE_ZEROES: sector u64, count u32,
-- flags u32. All are little-endian (virtio 1.2, 5.2.6).
use Rattle.std.specs.Prelude.{ℕ, ◌*◌, ◌/◌, List, length, map, drop}
use Rattle.std.specs.List.{range_with_len}
use Rattle.byteorder.specs.Endian.{little_number}
use Rattle.vub_block.specs.declared.request.Piece.{Piece}

unfoldable pub type_in : List ℕ → ℕ
type_in request = little_number 4 request

unfoldable pub sector_in : List ℕ → ℕ
sector_in request = little_number 8 (drop 8 request)

abbrev pub data_in : List ℕ → List ℕ
data_in request = drop 16 request

-- a range of sectors with its flags
unfoldable pub piece_in : List ℕ → Piece
piece_in bytes = record {
  first = little_number 8 bytes;
  count = little_number 4 (drop 8 bytes);
  flags = little_number 4 (drop 12 bytes);
}

-- the whole pieces of the data, the i-th from byte 16 * i on
unfoldable pub pieces_in : List ℕ → List Piece
pieces_in payload = map (λ i. piece_in (drop (16 * i) payload)) (range_with_len 0 (length payload / 16))
