-- The bytes of one file.
use Rattle.std.specs.Prelude.{ℕ, ◌+◌, ◌-◌, List, [], ◌∷◌, ◌++◌, length, take, drop, replicate}

-- the file, filled with zeros up to n bytes
abbrev pub filled : List ℕ → ℕ → List ℕ
filled file n = file ++ replicate (n - length file) 0

-- the file with these bytes at place offset; no bytes change nothing
unfoldable pub overlay : List ℕ → ℕ → List ℕ → List ℕ
overlay file offset [] = file
overlay file offset (b ∷ bs) =
    let whole = filled file (offset + length (b ∷ bs)) in
    take offset whole ++ (b ∷ bs) ++ drop (offset + length (b ∷ bs)) whole
