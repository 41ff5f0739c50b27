-- The first test that fails, of tests that are made in order.
use Rattle.std.specs.Prelude.{List, [], ◌∷◌, Option, Some, None}

-- the first fault, or that of the tests that follow
abbrev pub or_else : {E : Type 0} → Option E → Option E → Option E
or_else None b = b
or_else (Some e) b = Some e

-- the fault of the first element that has one
abbrev pub first_fault : {X E : Type 0} → (X → Option E) → List X → Option E
first_fault test [] = None
first_fault test (x ∷ xs) = or_else (test x) (first_fault test xs)
