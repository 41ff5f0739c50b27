-- Which table of regions is refused, and by which test.
use Rattle.std.specs.Prelude.{ℕ, ◌+◌, ◌^◌, Bool, ◌&&◌, ◌==◌, nat_lt, nat_le, if◌then◌else◌, List, [], ◌∷◌, length}
use Rattle.std.specs.Prelude.{Option, Some, None, Result, Ok, Err}
use Rattle.std.specs.List.{find, list_any, position_or_len, remove}
use Rattle.std.specs.Option.{option_map_or}
use Rattle.vub_mem.specs.declared.region.Region.{Region}
use Rattle.vub_mem.specs.declared.content.Content.{Content}
use Rattle.vub_mem.specs.declared.errors.MemError.{MemError}
use Rattle.vub_mem.specs.declared.errors.MemError.TheVariants.{Empty, Order, Overlap, Wraps, PastObject, NoSuchRegion}
use Rattle.vub_mem.specs.Faults.{or_else, first_fault}
use Rattle.vub_mem.specs.Place.{content_of}
use Rattle.vub_mem.specs.Sound.{IsBounded, IsBacked}

-- the first test that a region fails alone
unfoldable pub region_fault : List Content → Region → Option MemError
region_fault cs r =
    if r.len == 0 then Some Empty else
    if nat_lt (length (content_of cs r.object)) (r.offset + r.len) then Some PastObject else
    if nat_le (2 ^ 64) (r.start + r.len) then Some Wraps else
    None

-- the first test that a region fails, by order of the regions
abbrev pub regions_fault : List Content → List Region → Option MemError
regions_fault cs rs = first_fault (λ r. region_fault cs r) rs

-- the first test that two neighbours fail
unfoldable pub pair_fault : Region → Region → Option MemError
pair_fault r s =
    if nat_lt s.start r.start then Some Order else
    if nat_lt s.start (r.start + r.len) then Some Overlap else
    None

abbrev pub pairs_from : Region → List Region → Option MemError
pairs_from r [] = None
pairs_from r (s ∷ ss) = or_else (pair_fault r s) (pairs_from s ss)

unfoldable pub pairs_fault : List Region → Option MemError
pairs_fault [] = Some Empty
pairs_fault (r ∷ rs) = pairs_from r rs

-- the first test that a table fails
unfoldable pub table_fault : List Content → List Region → Option MemError
table_fault cs rs = or_else (regions_fault cs rs) (pairs_fault rs)

abbrev pub table_answer : Option MemError → Result (Unit {0}) MemError
table_answer None = Ok tt
table_answer (Some e) = Err e

-- the region as it enters the table: without a log
abbrev pub unlogged : Region → Region
unlogged r = record r { log = None }

-- whether two regions share an address
abbrev pub meets : Region → Region → Bool
meets q r = nat_lt q.start (r.start + r.len) && nat_lt r.start (q.start + q.len)

-- the first test that a region fails that is to enter the table
unfoldable pub insert_fault : List Content → List Region → Region → Option MemError
insert_fault cs rs r = or_else (region_fault cs r) (if list_any (λ q. meets q r) rs then Some Overlap else None)

-- the place of a region in the table: before the first that starts later
abbrev pub place_of : List Region → Region → ℕ
place_of rs r = position_or_len (λ q. nat_lt r.start q.start) rs

-- whether the region has this start and this length
abbrev pub is_region : ℕ → ℕ → Region → Bool
is_region start len r = (r.start == start) && (r.len == len)

-- the region with this start and this length, if there is one
abbrev pub remove_answer : List Region → ℕ → ℕ → Result Region MemError
remove_answer rs start len = option_map_or (λ r. Ok r) (find (λ r. is_region start len r) rs) (Err NoSuchRegion)

-- the table without that region
abbrev pub without : List Region → ℕ → ℕ → List Region
without rs start len = remove rs (position_or_len (λ r. is_region start len r) rs)

-- a region that may enter the table
pub record IsTested (cs : List Content) (r : Region) : Type 0 where
  pub bounded : IsBounded (unlogged r)
  pub backed : IsBacked cs r
