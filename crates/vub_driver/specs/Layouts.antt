-- Which layouts a driver takes.
use Rattle.std.specs.Prelude.{◌+◌, ◌*◌, ◌%◌, ◌^◌, ◌==◌, Bool, true, not, ◌&&◌, ◌||◌, nat_le, nat_lt, if◌then◌else◌}
use Rattle.std.specs.Prelude.{List, [], ◌∷◌, Option, Some, None}
use Rattle.std.specs.List.{list_all}
use Rattle.std.specs.Int.{is_power_of_two}
use Rattle.vub_driver.specs.declared.area.Area.{Area}
use Rattle.vub_driver.specs.declared.error.DriverError.{DriverError}
use Rattle.vub_driver.specs.declared.error.DriverError.TheVariants.{Size, Misaligned, Overlap}
use Rattle.vub_driver.specs.declared.layout.Layout.{Layout}

-- a power of two from 2 to 32768
unfoldable pub has_size : Layout → Bool
has_size l = is_power_of_two l.size && nat_le 2 l.size && nat_le l.size 32768

-- the alignment of the three parts (virtio 1.2, 2.7)
unfoldable pub is_aligned : Layout → Bool
is_aligned l = (l.desc % 16 == 0) && (l.avail % 2 == 0) && (l.used % 4 == 0)

-- the descriptors, the available ring, the used ring and the buffers
abbrev pub areas_of : Layout → List Area
areas_of l =
    record { at = l.desc; len = 16 * l.size }
    ∷ record { at = l.avail; len = 6 + 2 * l.size }
    ∷ record { at = l.used; len = 6 + 8 * l.size }
    ∷ record { at = l.buffers; len = l.slot * l.size }
    ∷ []

-- the area ends before the last address
abbrev pub ends : Area → Bool
ends a = nat_lt (a.at + a.len) (2 ^ 64)

-- no address lies in both; an area without a byte meets none
abbrev pub is_apart : Area → Area → Bool
is_apart a b = (a.len == 0) || (b.len == 0) || nat_le (a.at + a.len) b.at || nat_le (b.at + b.len) a.at

-- no two of them meet
abbrev pub are_apart : List Area → Bool
are_apart [] = true
are_apart (a ∷ rest) = list_all (λ b. is_apart a b) rest && are_apart rest

unfoldable pub is_disjoint : Layout → Bool
is_disjoint l = list_all ends (areas_of l) && are_apart (areas_of l)

-- the first test that a layout fails
unfoldable pub new_fault : Layout → Option DriverError
new_fault l =
    if not (has_size l) then Some Size else
    if not (is_aligned l) then Some Misaligned else
    if not (is_disjoint l) then Some Overlap else None
