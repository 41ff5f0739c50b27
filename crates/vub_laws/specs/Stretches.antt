-- Places of a run: the world at a place, and what is played from one place to another.
use Rattle.std.specs.Prelude.{ℕ, List, [], ◌∷◌, take, drop}
use Rattle.vub_model.specs.declared.play.Play.{Play}
use Rattle.vub_model.specs.Service.{Meaning}
use Rattle.vub_model.specs.World.{World}
use Rattle.vub_model.specs.RunOf.{party_of, next}

-- the world after these turns
abbrev pub world_after : {V : Type 0} → Meaning V → List ℕ → List Play → World V → World V
world_after m [] plays w = w
world_after m (turn ∷ turns) [] w = w
world_after m (turn ∷ turns) (l ∷ plays) w = world_after m turns plays (next m w (party_of turn) l)

-- the world after so many turns
abbrev pub world_at : {V : Type 0} → Meaning V → List ℕ → List Play → World V → ℕ → World V
world_at m turns plays w place = world_after m (take place turns) (take place plays) w

-- from this place on, so many
abbrev pub stretch : {X : Type 0} → ℕ → ℕ → List X → List X
stretch place count xs = take count (drop place xs)
