-- The numbers of a pending set: those below 64 as the bits of a word, and the others in a list, in order.
use Rattle.std.specs.Prelude.{ℕ, suc, ◌≤◌, Bool, ◌&&◌, ◌==◌, nat_lt, if◌then◌else◌, filter}
use Rattle.std.specs.Prelude.{List, [], ◌∷◌, length, slice_index}
use Rattle.std.specs.List.{range_with_len}
use Rattle.std.specs.Int.{bit_at}

-- the numbers, among so many from the first on, of the bits that are set in a word
abbrev pub numbers_in : ℕ → ℕ → ℕ → List ℕ
numbers_in word first count = filter (λ n. bit_at word n == 1) (range_with_len first count)

-- the numbers of the bits that are set in a word of 64 bits, from the lowest up
unfoldable pub numbers_of : ℕ → List ℕ
numbers_of word = numbers_in word 0 64

-- no number is below the least, and each is above the one before
abbrev pub AscendsFrom : ℕ → List ℕ → Type 0
AscendsFrom least [] = Unit {0}
AscendsFrom least (n ∷ ns) = (least ≤ n) × AscendsFrom (suc n) ns

-- the place of the first number that is not below this one
abbrev pub place_in : List ℕ → ℕ → ℕ
place_in [] n = 0
place_in (m ∷ ms) n = if nat_lt m n then suc (place_in ms n) else 0

-- whether the number stands there
abbrev pub is_there : List ℕ → ℕ → Bool
is_there ms n = nat_lt (place_in ms n) (length ms) && (slice_index ms (place_in ms n) == n)
