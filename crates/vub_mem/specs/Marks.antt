-- Which pages a write marks, and in which logs.
use Rattle.std.specs.Prelude.{◌≡◌, ℕ, ◌+◌, ◌-◌, ◌*◌, ◌/◌, ◌<◌, ◌==◌, if◌then◌else◌, List, [], ◌∷◌, Option, Some, None}
use Rattle.std.specs.Prelude.{max}
use Rattle.std.specs.List.{flat_map, range_with_len}
use Rattle.vub_mem.specs.declared.dirty.Stored.{Stored}
use Rattle.vub_mem.specs.declared.region.Region.{Region}
use Rattle.vub_mem.specs.declared.region.AtomicBitmapMmap.{AtomicBitmapMmap}
use Rattle.vub_mem.specs.Place.{region_of}
use Rattle.vub_mem.specs.Logs.{ChangesOne}

-- a page of a log, which is a numbered object
pub record Mark : Type 0 where
  pub object : ℕ
  pub page : ℕ

abbrev pub mark_in : Option AtomicBitmapMmap → ℕ → List Mark
mark_in None a = []
mark_in (Some l) a = record { object = l.object; page = 8 * l.offset + a / 4096 } ∷ []

abbrev pub mark_of : Option Region → ℕ → List Mark
mark_of None a = []
mark_of (Some r) a = mark_in r.log a

-- the mark of the page of an address, if its region has a log: page p of the guest is bit 8 * offset + p
unfoldable pub mark_at : List Region → ℕ → List Mark
mark_at rs a = mark_of (region_of rs a) a

-- how many pages of 4096 bytes a range meets
abbrev pub page_count : ℕ → ℕ → ℕ
page_count a n = if n == 0 then 0 else (a + n - 1) / 4096 - a / 4096 + 1

-- the marks of a range, in order of the pages: each page by the first address of the range that lies in it
unfoldable pub marks_of : List Region → ℕ → ℕ → List Mark
marks_of rs a n = flat_map (λ p. mark_at rs (max a (4096 * p))) (range_with_len (a / 4096) (page_count a n))

-- the log has this page, and a mark of it leaves the second log for the first
pub record IsMarked {L : Type 0} (len : L → ℕ) (marks : L → ℕ → L → Type 0) (old : L) (page : ℕ)
    (new : L) : Type 0 where
  pub has : page < 8 * len old
  pub marked : marks old page new
  pub kept : len new ≡ len old

abbrev pub page_marks : {L : Type 0} → (L → ℕ) → (L → ℕ → L → Type 0) → L → ℕ → L → Type 0
page_marks len marks old page new = IsMarked len marks old page new

-- the log of a mark goes from old to new, and all else stays
abbrev pub MarksOne : {L : Type 0} → (L → ℕ → L → Type 0) → List (Stored L) → Mark → List (Stored L) → Type 0
MarksOne step ss m new = ChangesOne (λ old log. step old m.page log) ss m.object new

-- the marks one after the other
abbrev pub MarksAll : {L : Type 0} → (L → ℕ → L → Type 0) → List (Stored L) → List Mark → List (Stored L) → Type 0
MarksAll step old [] new = new ≡ old
MarksAll {L} step old (m ∷ ms) new = (mid : List (Stored L)) × MarksOne step old m mid × MarksAll step mid ms new
