-- What holds of a run holds of each stretch of it.
use Rattle.std.proofs.Common.{ℕ, zero, suc, List, [], ◌∷◌, take, drop, refl, subst}
use Rattle.vub_model.specs.declared.party.Party.{Party}
use Rattle.vub_model.specs.declared.play.Play.{Play}
use Rattle.vub_model.specs.Service.{Meaning}
use Rattle.vub_model.specs.World.{World}
use Rattle.vub_model.specs.RunOf.{party_of, Turn, IsRun, EachTurn, next}
use Rattle.vub_model.proofs.Turns.{turn-next}
use Rattle.vub_laws.specs.Stretches.{world_at}

module _ {V : Type 0} (m : Meaning V) where
  -- a run goes on from the next world
  pub run-next : (turn : ℕ) (turns : List ℕ) (l : Play) (plays : List Play) (w z : World V) → IsRun m (turn ∷ turns) (l ∷ plays) w z → Turn m w (party_of turn) l (next m w (party_of turn) l) × IsRun m turns plays (next m w (party_of turn) l) z
  run-next turn turns l plays w z run =
      let p = party_of turn in
      let is = turn-next m w p l run.0 run.1 in
      let T : World V → Type 0 = λ x. Turn m w p l x in
      let R : World V → Type 0 = λ x. IsRun m turns plays x z in
      (subst T is run.1, subst R is run.2)

  pub run-later : (place : ℕ) (turns : List ℕ) (plays : List Play) (w z : World V) → IsRun m turns plays w z → IsRun m (drop place turns) (drop place plays) (world_at m turns plays w place) z
  run-later zero turns plays w z run = run
  run-later (suc place) [] [] w z run = run
  run-later (suc place) [] (l ∷ plays) w z run = absurd run
  run-later (suc place) (turn ∷ turns) [] w z run = absurd run
  run-later (suc place) (turn ∷ turns) (l ∷ plays) w z run = run-later place turns plays (next m w (party_of turn) l) z (run-next turn turns l plays w z run).1

  pub run-first : (place : ℕ) (turns : List ℕ) (plays : List Play) (w z : World V) → IsRun m turns plays w z → IsRun m (take place turns) (take place plays) w (world_at m turns plays w place)
  run-first zero turns plays w z run = refl
  run-first (suc place) [] [] w z run = refl
  run-first (suc place) [] (l ∷ plays) w z run = absurd run
  run-first (suc place) (turn ∷ turns) [] w z run = absurd run
  run-first (suc place) (turn ∷ turns) (l ∷ plays) w z run =
      let now = run-next turn turns l plays w z run in
      (next m w (party_of turn) l, now.0, run-first place turns plays (next m w (party_of turn) l) z now.1)

  module _ (P : World V → Party → Play → World V → Type 0) where
    each-none : (turns : List ℕ) (w : World V) → EachTurn P m turns [] w
    each-none [] w = tt
    each-none (turn ∷ turns) w = tt

    pub each-later : (place : ℕ) (turns : List ℕ) (plays : List Play) (w : World V) → EachTurn P m turns plays w → EachTurn P m (drop place turns) (drop place plays) (world_at m turns plays w place)
    each-later zero turns plays w each = each
    each-later (suc place) [] plays w each = tt
    each-later (suc place) (turn ∷ turns) [] w each = each-none (drop place turns) w
    each-later (suc place) (turn ∷ turns) (l ∷ plays) w each = each-later place turns plays (next m w (party_of turn) l) each.1

    pub each-first : (place : ℕ) (turns : List ℕ) (plays : List Play) (w : World V) → EachTurn P m turns plays w → EachTurn P m (take place turns) (take place plays) w
    each-first zero turns plays w each = tt
    each-first (suc place) [] plays w each = tt
    each-first (suc place) (turn ∷ turns) [] w each = tt
    each-first (suc place) (turn ∷ turns) (l ∷ plays) w each = (each.0, each-first place turns plays (next m w (party_of turn) l) each.1)
