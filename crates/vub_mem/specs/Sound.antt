-- What always holds of a guest memory.
use Rattle.std.specs.Prelude.{◌≡◌, ℕ, ◌+◌, ◌-◌, ◌*◌, ◌/◌, ◌^◌, ◌<◌, ◌≤◌, true, List, [], ◌∷◌, length}
use Rattle.std.specs.List.{AllByRecursion}
use Rattle.std.specs.Option.{ForSome}
use Rattle.vub_mem.specs.declared.content.Content.{Content}
use Rattle.vub_mem.specs.declared.region.Region.{Region}
use Rattle.vub_mem.specs.declared.dirty.Stored.{Stored}
use Rattle.vub_mem.specs.declared.region.AtomicBitmapMmap.{AtomicBitmapMmap}
use Rattle.vub_mem.specs.Logs.{log_len}
use Rattle.vub_mem.specs.Memory.{Guest, Memory}
use Rattle.vub_mem.specs.Place.{content_of}
use Rattle.vub_mem.specs.Track.{is_aligned}

-- the bit of the last page of a region in its log
abbrev pub last_bit : Region → AtomicBitmapMmap → ℕ
last_bit r l = 8 * l.offset + (r.start + r.len - 1) / 4096

-- a region that is not empty and passes neither the last guest address nor 64 bits in its content; one with a log
-- begins and ends at a page, and the bit of its last page has 64 bits
pub record IsBounded (r : Region) : Type 0 where
  pub some : 0 < r.len
  pub ends : r.start + r.len < 2 ^ 64
  pub offset_ends : r.offset + r.len < 2 ^ 64
  pub log_ends : ForSome r.log (λ l. last_bit r l < 2 ^ 64)
  pub aligned : ForSome r.log (λ l. is_aligned r ≡ true)

-- a region that lies in its content
abbrev pub IsBacked : List Content → Region → Type 0
IsBacked cs r = r.offset + r.len ≤ length (content_of cs r.object)

-- the regions stand in order of their addresses, and no two meet
abbrev pub IsApart : List Region → Type 0
IsApart [] = Unit {0}
IsApart (q ∷ rs) = AllByRecursion (λ s. q.start + q.len ≤ s.start) rs × IsApart rs

-- the regions of a guest memory, over its contents
pub record IsSound (g : Guest) : Type 0 where
  pub bounded : AllByRecursion IsBounded g.regions
  pub backed : AllByRecursion (λ r. IsBacked g.contents r) g.regions
  pub apart : IsApart g.regions

-- a region whose log, if it has one, is there and has a bit for each of its pages
abbrev pub IsLogged : {L : Type 0} → (L → ℕ) → List (Stored L) → Region → Type 0
IsLogged len ss r = ForSome r.log (λ l. last_bit r l < 8 * log_len len ss l.object)

pub record IsSoundMemory {L : Type 0} (len : L → ℕ) (m : Memory L) : Type 0 where
  pub guest : IsSound m.guest
  pub logged : AllByRecursion (λ r. IsLogged len m.logs r) m.guest.regions
