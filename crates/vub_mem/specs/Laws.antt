-- Laws of writes: what they leave alone, and which pages they mark.
use Rattle.std.specs.Prelude.{◌≡◌, ℕ, ◌+◌, ◌-◌, ◌*◌, ◌/◌, ◌<◌, ◌⊎◌, ◌↔◌, Bool, true, List, [], ◌∷◌, length, Option}
use Rattle.std.specs.Prelude.{Some, None, slice_index}
use Rattle.vub_mem.specs.declared.dirty.Stored.{Stored}
use Rattle.vub_mem.specs.declared.region.AtomicBitmapMmap.{AtomicBitmapMmap}
use Rattle.vub_mem.specs.declared.region.Region.{Region}
use Rattle.vub_mem.specs.Memory.{Guest}
use Rattle.vub_mem.specs.Logs.{HoldsOf}
use Rattle.vub_mem.specs.Marks.{Mark, MarksAll, page_marks, marks_of}
use Rattle.vub_mem.specs.Place.{region_of, content_of, write_at}

-- the address lies at this place of a content
abbrev pub LiesIn : Option Region → ℕ → ℕ → ℕ → Type 0
LiesIn None a o i = ⊥
LiesIn (Some r) a o i = (r.object ≡ o) × (r.offset + (a - r.start) ≡ i)

abbrev pub LiesAt : List Region → ℕ → ℕ → ℕ → Type 0
LiesAt rs a o i = LiesIn (region_of rs a) a o i

-- the byte at a place of a content
abbrev pub byte_of : Guest → ℕ → ℕ → ℕ
byte_of g o i = slice_index (content_of g.contents o) i

-- No address of the range lies at the place.
abbrev pub IsElsewhere : List Region → ℕ → ℕ → ℕ → ℕ → Type 0
IsElsewhere rs a n o i = (k : ℕ) → k < n → LiesAt rs (a + k) o i → ⊥

-- a write changes no byte but those of its range, by content and place
abbrev pub WritesKeepRest : Type 0
WritesKeepRest =
    (g : Guest) (a : ℕ) (bs : List ℕ) (o i : ℕ) → IsElsewhere g.regions a (length bs) o i →
    byte_of (write_at g a bs) o i ≡ byte_of g o i

-- a write keeps the regions, and the length of each content
abbrev pub WritesKeepShape : Type 0
WritesKeepShape =
    (g : Guest) (a : ℕ) (bs : List ℕ) →
    ((write_at g a bs).regions ≡ g.regions)
    × ((o : ℕ) → length (content_of (write_at g a bs).contents o) ≡ length (content_of g.contents o))

-- the list has the element
abbrev pub IsIn : {X : Type 0} → X → List X → Type 0
IsIn x [] = ⊥
IsIn x (y ∷ ys) = (y ≡ x) ⊎ IsIn x ys

-- every page of 4096 guest bytes that a range meets in a region with a log is among the marks of the range
abbrev pub MarksEachPage : List Region → Type 0
MarksEachPage rs =
    (a n k : ℕ) (r : Region) (l : AtomicBitmapMmap) → k < n → region_of rs (a + k) ≡ Some r → r.log ≡ Some l →
    IsIn (record { object = l.object; page = 8 * l.offset + (a + k) / 4096 }) (marks_of rs a n)

-- some address of the range lies in a region with a log, and the mark is of its page in that log
pub record MeetsPage (rs : List Region) (a n : ℕ) (m : Mark) : Type 0 where
  pub behind : ℕ
  pub region : Region
  pub log : AtomicBitmapMmap
  pub within : behind < n
  pub lies : region_of rs (a + behind) ≡ Some region
  pub logged : region.log ≡ Some log
  pub is : m ≡ record { object = log.object; page = 8 * log.offset + (a + behind) / 4096 }

-- the marks of a range are those of the pages that it meets in regions with a log, and no others
abbrev pub MarksMetPages : List Region → Type 0
MarksMetPages rs = (a n : ℕ) (m : Mark) → IsIn m (marks_of rs a n) ↔ MeetsPage rs a n m

-- what a log shows of a page: a mark sets it, and no mark takes it away
pub record IsShown {L : Type 0} (marks : L → ℕ → L → Type 0) (shows : L → ℕ → Bool) : Type 0 where
  pub sets : (x : L) (p : ℕ) (y : L) → marks x p y → shows y p ≡ true
  pub keeps : (x : L) (p : ℕ) (y : L) (q : ℕ) → marks x p y → shows x q ≡ true → shows y q ≡ true

-- after marks each of their pages is shown by its log, and each page that was shown before
abbrev pub MarksShow : {L : Type 0} → (L → ℕ) → (L → ℕ → L → Type 0) → Type 0
MarksShow {L} len marks =
    (shows : L → ℕ → Bool) → IsShown marks shows → (old new : List (Stored L)) (ms : List Mark) →
    MarksAll (page_marks len marks) old ms new → (m : Mark) →
    IsIn m ms ⊎ HoldsOf (λ log. shows log m.page ≡ true) old m.object →
    HoldsOf (λ log. shows log m.page ≡ true) new m.object
