-- The bytes that a source gave, where it tells them.
use Rattle.std.specs.Prelude.{◌≡◌, ℕ, List, [], Option, Result, MatchResult}
use Rattle.std.specs.Io.KnownBytes.{Consumes, Keeps, IsAtEnd}

-- a read gave the first of the bytes that were left and took them off, gave none exactly where none was left, and
-- took none where it was refused
abbrev pub ReadGives : {E : Type 0} → Option (List ℕ) → Option (List ℕ) → Result (List ℕ) E → Type 0
ReadGives old new r = MatchResult r (λ bytes. Consumes old new bytes × (bytes ≡ [] → IsAtEnd old)) (λ _. Keeps old new)
