-- A whole input and a whole output.
use Rattle.std.specs.Prelude.{◌≡◌, ℕ, ◌+◌, ◌≤◌, ◌<◌, List, length, take, Bool, true, Option, IfSome, Result, Ok, Err}
use Rattle.std.specs.Io.KnownBytes.{Appends, Consumes}
use Rattle.vub_stream.specs.declared.input.Input.{Input}
use Rattle.vub_stream.specs.declared.input.Input.TheVariants.{Whole, TooLong}
use Rattle.vub_stream.specs.declared.input.TheConstants.{LIMIT}
use Rattle.vub_stream.specs.declared.source.SourceError.{SourceError}
use Rattle.vub_stream.specs.declared.source.SourceError.TheVariants.{Failed, OutOfMemory}

-- these bytes are all that was left at first, where that is told; there are at most as many as the limit allows, and
-- the end was met
abbrev pub IsWholeInput : Option (List ℕ) → Bool → Input → Type 0
IsWholeInput left ended (Whole found) = IfSome left (λ input. input ≡ found) × (length found ≤ LIMIT) × (ended ≡ true)
IsWholeInput left ended TooLong = Unit {0}

-- more bytes were left at first than the limit allows
abbrev pub IsLongInput : Option (List ℕ) → Input → Type 0
IsLongInput left (Whole found) = Unit {0}
IsLongInput left TooLong = IfSome left (λ input. LIMIT < length input)

-- so many bytes of those that were left were taken, where they are told: all that were found, one byte past the limit
-- of a long input, none past the limit where a read failed, and at most one where memory was refused
abbrev pub TakesInput : Option (List ℕ) → Option (List ℕ) → Result Input SourceError → Type 0
TakesInput old new (Ok (Whole found)) = Consumes old new found
TakesInput old new (Ok TooLong) = (bytes : List ℕ) × Consumes old new bytes × (length bytes ≡ LIMIT + 1)
TakesInput old new (Err Failed) = (bytes : List ℕ) × Consumes old new bytes × (length bytes ≤ LIMIT)
TakesInput old new (Err OutOfMemory) = (bytes : List ℕ) × Consumes old new bytes × (length bytes ≤ LIMIT + 1)

-- a front of the text was written, and nothing else
abbrev pub WritesFront : Option (List ℕ) → Option (List ℕ) → List ℕ → Type 0
WritesFront old new text = (n : ℕ) × Appends old new (take n text)
