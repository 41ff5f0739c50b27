-- Where a guest address lies, for one that keeps a list of the places written.
use Rattle.std.specs.Prelude.{ℕ, ◌≡◌, ◌<◌, ◌+◌, ◌-◌, List, Option, Some, option_map}
use Rattle.vub_mem.specs.declared.place.Place.{Place}
use Rattle.vub_mem.specs.declared.region.Region.{Region}
use Rattle.vub_mem.specs.Place.{region_of}

-- the byte of its object at which an address of the region lies
abbrev pub place_in : ℕ → Region → Place
place_in a r = record { object = r.object; offset = r.offset + (a - r.start); left = r.len - (a - r.start) }

-- where the address lies, if it lies in a region
abbrev pub place_at : List Region → ℕ → Option Place
place_at rs a = option_map (λ r. place_in a r) (region_of rs a)

-- the addresses behind it in its region lie behind it in its object
abbrev pub RunsOn : List Region → ℕ → Place → Type 0
RunsOn rs a p =
    (i : ℕ) → i < p.left →
    place_at rs (a + i) ≡ Some (record { object = p.object; offset = p.offset + i; left = p.left - i })
