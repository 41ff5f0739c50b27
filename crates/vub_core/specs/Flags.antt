-- Flags of written bytes, as runs of them are set.
use Rattle.std.specs.Prelude.{ℕ, zero, suc, ◌+◌, Bool, true, List, [], slice_set, slice_index_or}

-- the flags with this many set, from this place on
abbrev pub filled : List Bool → ℕ → ℕ → List Bool
filled flags place zero = flags
filled flags place (suc n) = slice_set (filled flags place n) (place + n) true

-- the flags of all objects with this many set of one, from this place on
abbrev pub run_flagged : List (List Bool) → ℕ → ℕ → ℕ → List (List Bool)
run_flagged flags object place n = slice_set flags object (filled (slice_index_or flags object []) place n)
