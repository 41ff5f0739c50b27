-- What a look-up found.
use Rattle.std.specs.Prelude.{◌≡◌, ℕ, ◌+◌, ◌^◌, ◌<◌, ◌≤◌, ◌==◌, true, List, length, Some, slice_index_or, slice_set}
use Rattle.std.specs.List.{position_or_len}
use Rattle.std.specs.Option.{ForSome}
use Rattle.vub_mem.specs.declared.content.Content.{Content}
use Rattle.vub_mem.specs.declared.region.Region.{Region}
use Rattle.vub_mem.specs.Place.{region_of, content_of, covers, with_byte, with_bytes, overwritten}
use Rattle.vub_mem.specs.Sound.{last_bit}
use Rattle.vub_mem.specs.declared.dirty.Stored.{Stored}
use Rattle.vub_mem.specs.Logs.{log_len}

-- the region of an address, and where it lies
pub record IsFound (rs : List Region) (a : ℕ) (r : Region) : Type 0 where
  pub is : region_of rs a ≡ Some r
  pub low : r.start ≤ a
  pub high : a < r.start + r.len
  pub offset_ends : r.offset + r.len < 2 ^ 64
  pub log_ends : ForSome r.log (λ l. last_bit r l < 2 ^ 64)
  pub ends : r.start + r.len < 2 ^ 64

-- the place of the content with this number
pub record IsPlace (cs : List Content) (o k : ℕ) : Type 0 where
  pub within : k < length cs
  pub content : (d : Content) → (slice_index_or cs k d).bytes ≡ content_of cs o
  pub write :
      (d : Content) (i b : ℕ) →
      slice_set cs k (record { object = (slice_index_or cs k d).object; bytes = slice_set (content_of cs o) i b })
      ≡ with_byte cs o i b
  pub store :
      (d : Content) (i : ℕ) (bs : List ℕ) →
      slice_set cs k (record { object = (slice_index_or cs k d).object; bytes = overwritten (content_of cs o) i bs })
      ≡ with_bytes cs o i bs

-- the address of a covered range that lies offset behind base
pub record IsLocated (rs : List Region) (base offset len a : ℕ) : Type 0 where
  pub is : a ≡ base + offset
  pub covered : covers rs a len ≡ true
  pub ends : a + len < 2 ^ 64

-- the place of the log with this number
pub record IsLogPlace {L : Type 0} (ss : List (Stored L)) (o k : ℕ) : Type 0 where
  pub within : k < length ss
  pub len : (len : L → ℕ) (d : Stored L) → len (slice_index_or ss k d).log ≡ log_len len ss o
  pub first : k ≡ position_or_len (λ s. s.object == o) ss
