-- The log of the regions of a table.
use Rattle.std.specs.Prelude.{◌≡◌, ℕ, ◌+◌, ◌-◌, ◌*◌, ◌/◌, ◌%◌, ◌<◌, Bool, true, not, ◌&&◌, ◌==◌, nat_lt, nat_le}
use Rattle.std.specs.Prelude.{if◌then◌else◌, List, Option, Some, None, Result, Ok, Err}
use Rattle.vub_mem.specs.declared.dirty.Stored.{Stored}
use Rattle.vub_mem.specs.declared.region.Region.{Region}
use Rattle.vub_mem.specs.declared.region.AtomicBitmapMmap.{AtomicBitmapMmap}
use Rattle.vub_mem.specs.declared.errors.LogError.{LogError}
use Rattle.vub_mem.specs.declared.errors.LogError.TheVariants.{EmptyLog, PastObject, NotPageAligned, TooSmall}
use Rattle.vub_mem.specs.declared.errors.LogError.TheVariants.{Unsupported}
use Rattle.vub_mem.specs.Faults.{first_fault}
use Rattle.vub_mem.specs.Logs.{log_len}

-- whether a region begins and ends at a page
abbrev pub is_aligned : Region → Bool
is_aligned r = (r.start % 4096 == 0) && (r.len % 4096 == 0)

-- the number of the last page of a region
abbrev pub last_page : Region → ℕ
last_page r = (r.start + r.len - 1) / 4096

-- the first test that a region fails which is to get a log of this many bytes
unfoldable pub track_fault : ℕ → Bool → Region → Option LogError
track_fault size tracks r =
    if not tracks then Some Unsupported else
    if not (is_aligned r) then Some NotPageAligned else
    if nat_le (8 * size) (last_page r) then Some TooSmall else
    None

-- a region that may get a log of this many bytes
pub record IsTrackable (size : ℕ) (r : Region) : Type 0 where
  pub below : last_page r < 8 * size
  pub aligned : is_aligned r ≡ true

-- the first test that a region fails, by order of the regions
abbrev pub tracks_fault : ℕ → Bool → List Region → Option LogError
tracks_fault size tracks rs = first_fault (λ r. track_fault size tracks r) rs

-- the first test that fails for a part of a log, from byte offset on, of this size
unfoldable pub log_fault : {L : Type 0} → (L → ℕ) → List (Stored L) → List Region → ℕ → ℕ → ℕ → Bool → Option LogError
log_fault len ss rs o offset size tracks =
    if size == 0 then Some EmptyLog else
    if nat_lt (log_len len ss o) (offset + size) then Some PastObject else
    tracks_fault size tracks rs

abbrev pub log_answer : Option LogError → Result (Unit {0}) LogError
log_answer None = Ok tt
log_answer (Some e) = Err e

-- the pages of a region in a log
abbrev pub bitmap_of : Region → ℕ → ℕ → AtomicBitmapMmap
bitmap_of r o offset = record { object = o; offset = offset; pages_before = r.start / 4096; pages = r.len / 4096 }

-- the region with this log
abbrev pub with_log : ℕ → ℕ → Region → Region
with_log o offset r = record r { log = Some (bitmap_of r o offset) }
