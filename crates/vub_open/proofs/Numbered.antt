-- Contents whose numbers are below a bound.
use Rattle.std.proofs.Common.{◌≡◌, ℕ, ◌+◌, ◌<◌, List, [], ◌∷◌, ◌++◌, arith}
use Rattle.std.specs.List.{AllByRecursion}
use Rattle.vub_mem.specs.declared.content.Content.{Content}

-- none of them has the bound as its number
pub below_apart : (cs : List Content) (n : ℕ) → AllByRecursion (λ c. c.object < n) cs → AllByRecursion (λ c. c.object ≡ n → ⊥) cs
below_apart [] n below = tt
below_apart (c ∷ cs) n below = ((λ same. let low : c.object < n = below.0 in absurd (omega arith)), below_apart cs n below.1)

-- a greater bound
pub below_next : (cs : List Content) (n : ℕ) → AllByRecursion (λ c. c.object < n) cs → AllByRecursion (λ c. c.object < n + 1) cs
below_next [] n below = tt
below_next (c ∷ cs) n below = ((let low : c.object < n = below.0 in omega arith), below_next cs n below.1)

-- one more content, with the bound as its number
pub below_push : (cs : List Content) (n : ℕ) (c : Content) → c.object ≡ n → AllByRecursion (λ c. c.object < n) cs → AllByRecursion (λ c. c.object < n + 1) (cs ++ c ∷ [])
below_push [] n c is below = ((omega arith), tt)
below_push (d ∷ ds) n c is below = ((let low : d.object < n = below.0 in omega arith), below_push ds n c is below.1)
