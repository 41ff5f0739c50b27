-- Law of reading what was written.
use Rattle.std.specs.Prelude.{◌≡◌, ℕ, ◌+◌, ◌<◌, true, List, length}
use Rattle.vub_mem.specs.declared.region.Region.{Region}
use Rattle.vub_mem.specs.Laws.{LiesAt}
use Rattle.vub_mem.specs.Memory.{Guest}
use Rattle.vub_mem.specs.Place.{bytes_at, covers, write_at}
use Rattle.vub_mem.specs.Sound.{IsSound}

-- No two addresses of the range show one byte. Regions need no alignment and may share a content, so that two can.
abbrev pub IsPlacedApart : List Region → ℕ → ℕ → Type 0
IsPlacedApart rs a n = (j k o i : ℕ) → j < k → k < n → LiesAt rs (a + j) o i → LiesAt rs (a + k) o i → ⊥

-- what is written into a range that is covered and placed apart is read back
abbrev pub WritesAreReadBack : Type 0
WritesAreReadBack =
    (g : Guest) (a : ℕ) (bs : List ℕ) → IsSound g → covers g.regions a (length bs) ≡ true →
    IsPlacedApart g.regions a (length bs) →
    bytes_at (write_at g a bs) a (length bs) ≡ bs
