-- Which entry comes next, and how many are left.
use Rattle.std.specs.Prelude.{ℕ, ◌+◌, ◌-◌, ◌%◌, ◌^◌, Bool, not, ◌||◌, ◌==◌, if◌then◌else◌}
use Rattle.std.specs.Int.{w16}
use Rattle.vub_mem.specs.Memory.{Guest}
use Rattle.vub_mem.specs.Place.{covers, number_at}
use Rattle.vub_queue.specs.Ring.{Ring}
use Rattle.vub_queue.specs.Layout.{avail_index_at}

-- the difference of two indexes, which count in 16 bits
abbrev pub minus : ℕ → ℕ → ℕ
minus a b = (a + 2 ^ 16 - b) % 2 ^ 16

-- the index after this one
abbrev pub after : ℕ → ℕ
after n = (n + 1) % 2 ^ 16

-- whether the available ring's index word lies in guest memory
abbrev pub index_covers : Guest → Ring → Bool
index_covers g r = covers g.regions (avail_index_at r) 2

-- how many entries the driver has made available beyond those that were taken, where the index word is covered
abbrev pub left_of : Guest → Ring → ℕ
left_of g r = minus (number_at w16 g (avail_index_at r)) r.next_avail

-- an entry is left: some are, or the index word can't be read
abbrev pub is_left : Guest → Ring → Bool
is_left g r = not (index_covers g r) || not (left_of g r == 0)

-- how many entries are left, or none where the index word can't be read
abbrev pub count_left : Guest → Ring → ℕ
count_left g r = if index_covers g r then left_of g r else 0
