-- Where a look-up by halving stands in a table of regions, which stand in order of their addresses.
use Rattle.std.specs.Prelude.{◌≡◌, ℕ, ◌+◌, ◌-◌, ◌*◌, ◌^◌, ◌<◌, ◌≤◌, List, length, slice_index_or}
use Rattle.vub_mem.specs.declared.region.Region.{Region}

-- the first k regions start at or below the address, the others above it
pub record IsParted (rs : List Region) (a k : ℕ) : Type 0 where
  pub within : k ≤ length rs
  pub low : (j : ℕ) (d : Region) → j < k → (slice_index_or rs j d).start ≤ a
  pub high : (j : ℕ) (d : Region) → k ≤ j → j < length rs → a < (slice_index_or rs j d).start

-- no region but that of place k, if there is one, can hold the address: those before it end at or below the address,
-- those behind it start above it
pub record StandsAt (rs : List Region) (a k : ℕ) : Type 0 where
  pub within : k ≤ length rs
  pub low : (j : ℕ) (d : Region) → j < k → (slice_index_or rs j d).start + (slice_index_or rs j d).len ≤ a
  pub high : (j : ℕ) (d : Region) → k < j → j < length rs → a < (slice_index_or rs j d).start

-- the regions before place k end at or below the address
pub record IsPast (rs : List Region) (a k : ℕ) : Type 0 where
  pub within : k ≤ length rs
  pub low : (j : ℕ) (d : Region) → j < k → (slice_index_or rs j d).start + (slice_index_or rs j d).len ≤ a

-- the region of place k
pub record IsRegionAt (rs : List Region) (k : ℕ) (r : Region) : Type 0 where
  pub within : k < length rs
  pub is : (d : Region) → slice_index_or rs k d ≡ r

-- from `before` steps on, halving over n starts takes at most as many as leave 2 ^ s ≤ 2n + 1
abbrev pub HalvesIn : ℕ → ℕ → ℕ → Type 0
HalvesIn n before after = 2 ^ (after - before) ≤ 2 * n + 1
