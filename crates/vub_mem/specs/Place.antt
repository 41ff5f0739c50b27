-- Where guest addresses lie, and what reads and writes do.
use Rattle.std.specs.Prelude.{ℕ, ◌+◌, ◌-◌, Bool, ◌&&◌, nat_le, nat_lt, ◌==◌, if◌then◌else◌, List, [], ◌∷◌, ◌++◌, length}
use Rattle.std.specs.Prelude.{take, drop, Option, Some, None, is_some, slice_index, slice_set, map}
use Rattle.std.specs.List.{find, list_all, range_with_len}
use Rattle.std.specs.Option.{option_map_or}
use Rattle.std.specs.Int.{Width, byte_len, from_le_bytes}
use Rattle.vub_mem.specs.declared.region.Region.{Region}
use Rattle.vub_mem.specs.declared.content.Content.{Content}
use Rattle.vub_mem.specs.Memory.{Guest}

-- whether the region holds the address
abbrev pub holds : Region → ℕ → Bool
holds r a = nat_le r.start a && nat_lt (a - r.start) r.len

-- whether the content has this number
abbrev pub is_numbered : Content → ℕ → Bool
is_numbered c o = c.object == o

-- the region that an address lies in
abbrev pub region_of : List Region → ℕ → Option Region
region_of rs a = find (λ r. holds r a) rs

-- the bytes of the content with this number, or none
abbrev pub content_of : List Content → ℕ → List ℕ
content_of cs o = option_map_or (λ c. c.bytes) (find (λ c. is_numbered c o) cs) []

-- the contents after a write of one byte into one of them
abbrev pub with_byte : List Content → ℕ → ℕ → ℕ → List Content
with_byte [] o i b = []
with_byte (c ∷ cs) o i b =
    if is_numbered c o then record c { bytes = slice_set c.bytes i b } ∷ cs else c ∷ with_byte cs o i b

-- whether each of the n addresses from a on lies in a region
unfoldable pub covers : List Region → ℕ → ℕ → Bool
covers rs a n = list_all (λ x. is_some (region_of rs x)) (range_with_len a n)

-- the byte at a place of a region
abbrev pub byte_in : List Content → ℕ → Option Region → ℕ
byte_in cs a None = 0
byte_in cs a (Some r) = slice_index (content_of cs r.object) (r.offset + (a - r.start))

-- the byte at an address, or 0 outside of all regions
unfoldable pub byte_at : Guest → ℕ → ℕ
byte_at g a = byte_in g.contents a (region_of g.regions a)

-- the n bytes from an address on
unfoldable pub bytes_at : Guest → ℕ → ℕ → List ℕ
bytes_at g a n = map (λ x. byte_at g x) (range_with_len a n)

-- the little-endian number of this width at an address
unfoldable pub number_at : Width → Guest → ℕ → ℕ
number_at w g a = from_le_bytes w (bytes_at g a (byte_len w))

abbrev pub poke_in : List Content → ℕ → ℕ → Option Region → List Content
poke_in cs a b None = cs
poke_in cs a b (Some r) = with_byte cs r.object (r.offset + (a - r.start)) b

-- the memory after a write of one byte
unfoldable pub poke : Guest → ℕ → ℕ → Guest
poke g a b = record g { contents = poke_in g.contents a b (region_of g.regions a) }

-- the memory after these bytes are written one after the other from an address on
unfoldable pub write_at : Guest → ℕ → List ℕ → Guest
write_at g a [] = g
write_at g a (b ∷ bs) = write_at (poke g a b) (a + 1) bs

-- the bytes with these in the place of as many from number i on
abbrev pub overwritten : List ℕ → ℕ → List ℕ → List ℕ
overwritten xs i bs = take i xs ++ (bs ++ drop (i + length bs) xs)

-- the contents after these bytes are written into one of them
abbrev pub with_bytes : List Content → ℕ → ℕ → List ℕ → List Content
with_bytes [] o i bs = []
with_bytes (c ∷ cs) o i bs =
    if is_numbered c o then record c { bytes = overwritten c.bytes i bs } ∷ cs else c ∷ with_bytes cs o i bs

-- the memory after these bytes are written into a content from its byte i on
unfoldable pub store_at : Guest → ℕ → ℕ → List ℕ → Guest
store_at g o i bs = record g { contents = with_bytes g.contents o i bs }
