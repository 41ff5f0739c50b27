-- The bits of a log that a range of places of a region meets.
use Rattle.std.specs.Prelude.{◌≡◌, ℕ, ◌+◌, ◌-◌, ◌*◌, ◌/◌, ◌%◌, ◌^◌, ◌↔◌, Bool, false, not, IsTrue, ◌&&◌, ◌||◌, ◌==◌}
use Rattle.std.specs.Prelude.{nat_lt, nat_le, if◌then◌else◌, List, [], ◌∷◌, min, Option, Some, None, Result, Ok, Err}
use Rattle.std.specs.List.{range_with_len}
use Rattle.vub_mem.specs.declared.region.Region.{Region}
use Rattle.vub_mem.specs.declared.region.AtomicBitmapMmap.{AtomicBitmapMmap}
use Rattle.vub_mem.specs.declared.bitmap_region.BitmapMmapRegion.{BitmapMmapRegion}
use Rattle.vub_mem.specs.declared.errors.LogError.{LogError}
use Rattle.vub_mem.specs.declared.errors.LogError.TheVariants.{NotPageAligned, TooSmall}
use Rattle.vub_mem.specs.Marks.{page_count}
use Rattle.vub_mem.specs.Track.{is_aligned, last_page, bitmap_of}

-- the bit of the page in which a place of the region lies
abbrev pub bit_of : AtomicBitmapMmap → ℕ → ℕ
bit_of m place = 8 * m.offset + m.pages_before + place / 4096

-- how many pages of the region begin at that of a place or behind it; a region has at most 2 ^ 52 pages
abbrev pub pages_from : AtomicBitmapMmap → ℕ → ℕ
pages_from m place = min m.pages (2 ^ 52) - place / 4096

-- the bits of the pages that a range of n places meets, in order, as far as the region has the pages and a log of
-- `limit` bits has the bits
abbrev pub bits_met : AtomicBitmapMmap → ℕ → ℕ → ℕ → List ℕ
bits_met m limit place n =
    range_with_len (bit_of m place) (min (min (page_count place n) (pages_from m place)) (limit - bit_of m place))

-- the bit of a place, if the region has the place and a log of `limit` bits has the bit
abbrev pub bit_at_place : AtomicBitmapMmap → ℕ → ℕ → Option ℕ
bit_at_place m limit place =
    if nat_lt 0 (pages_from m place) && nat_lt (bit_of m place) limit then Some (bit_of m place) else None

-- marks of bits of one log, one after the other
abbrev pub MarksBits : {L : Type 0} → (L → ℕ → L → Type 0) → L → List ℕ → L → Type 0
MarksBits step old [] new = new ≡ old
MarksBits {L} step old (b ∷ bs) new = (mid : L) × step old b mid × MarksBits step mid bs new

-- the answer to whether a bit stands: that of a byte as it is loaded, or false where there is no bit
abbrev pub ShowsBit : {L : Type 0} → (L → ℕ → ℕ → L → Type 0) → L → Option ℕ → Bool → L → Type 0
ShowsBit loads old None answer new = (answer ≡ false) × (new ≡ old)
ShowsBit loads old (Some bit) answer new =
    (byte : ℕ) × loads old (bit / 8) byte new × (IsTrue answer ↔ (byte / 2 ^ (bit % 8) % 2 ≡ 1))

-- whether a region has no page, passes 2 ^ 64, or has its last page past a log of this many bytes
abbrev pub is_too_small : Region → ℕ → Bool
is_too_small r log_bytes = (r.len == 0) || (nat_lt (2 ^ 64) (r.start + r.len) || nat_le (8 * log_bytes) (last_page r))

-- the pages of a region in a log, from byte offset on
unfoldable pub bitmap_answer : Region → ℕ → ℕ → ℕ → Result AtomicBitmapMmap LogError
bitmap_answer r o offset log_bytes =
    if not (is_aligned r) then Err NotPageAligned else
    if is_too_small r log_bytes then Err TooSmall else
    Ok (bitmap_of r o offset)

-- the same of a region that may be without a log
abbrev pub inner_bits : Option AtomicBitmapMmap → ℕ → ℕ → ℕ → List ℕ
inner_bits None limit place n = []
inner_bits (Some m) limit place n = bits_met m limit place n

abbrev pub inner_bit : Option AtomicBitmapMmap → ℕ → ℕ → Option ℕ
inner_bit None limit place = None
inner_bit (Some m) limit place = bit_at_place m limit place

-- the bitmap whose place 0 is place `offset` of this one; where that passes 64 bits there is no such place, and no bit
abbrev pub sliced : BitmapMmapRegion → ℕ → BitmapMmapRegion
sliced b offset =
    if nat_lt (b.base + offset) (2 ^ 64)
    then record b { base = b.base + offset }
    else record { inner = None; base = 2 ^ 64 - 1 }
