-- A batch comes to rest: in each round in which a party has a step less is left.
use Rattle.std.proofs.Common.{◌≡◌, ◌⊎◌, ℕ, zero, suc, ◌+◌, ◌<◌, inl, inr, List, [], ◌∷◌, length, sym, subst, arith}
use Rattle.std.specs.List.{range_with_len, repeat}
use Rattle.vub_driver.specs.declared.layout.Layout.{Layout}
use Rattle.vub_proto.specs.declared.device_said.DeviceSaid.{DeviceSaid}
use Rattle.vub_model.specs.declared.party.Party.{Party}
use Rattle.vub_model.specs.declared.party.Party.TheVariants as party
use Rattle.vub_model.specs.declared.play.Play.{Play}
use Rattle.vub_model.specs.declared.play.Play.TheVariants as play
use Rattle.vub_model.specs.declared.small.Small.{Small}
use Rattle.vub_model.specs.Control.{MayControl}
use Rattle.vub_model.specs.RunOf.{HasNoStep, IsAtRest, IsRun, Turn, party_of}
use Rattle.vub_model.specs.Service.{Meaning}
use Rattle.vub_model.specs.World.{World, May, after}
use Rattle.vub_model.proofs.Owners.{within-phases}
use Rattle.vub_model.proofs.Sound.{sound-turn}
use Rattle.vub_model.proofs.Turns.{turn-cases}
use Rattle.vub_laws.specs.Draining.{measure}
use Rattle.vub_laws.proofs.DrainRuns.{Goes}
use Rattle.vub_laws.proofs.Plain.{plain-turn}
use Rattle.vub_talk.proofs.Guarding.{Sits}
use Rattle.vub_talk.proofs.Standing.{Stands, Falls, guest-falls, worker-falls}

module _ {V : Type 0} (m : Meaning V) (l : Layout) (at : Sits l) where
  goes-turn : (more : ℕ) (w : World V) (p : Party) (a : Play) (z : World V) → Goes (suc more) w → Turn m w p a z → Goes more z
  goes-turn more w p a z goes turn = record { sound = sound-turn m more w p a z goes.sound turn; plain = plain-turn m w p a z turn goes.plain }

  control-none : (w : World V) → w.control.plan.steps ≡ [] → (s : Small) (said : DeviceSaid) → MayControl w.shared w.control.plan.steps s said → ⊥
  control-none w done s said may = let M : List Small → Type 0 = λ steps. MayControl w.shared steps s said in subst M done may

  -- a step leaves less
  step-falls : (more : ℕ) (w : World V) (n k : ℕ) → Goes more w → Stands l n k w → (p : Party) (a : Play) → May w p a → Falls l (measure w + k) (after m w p a)
  step-falls more w n k goes stands party.Guest play.Guest may = guest-falls l at w n k stands may
  step-falls more w n k goes stands party.Guest a may = absurd may
  step-falls more w n k goes stands party.Control (play.Control s said) may = absurd (control-none w stands.idle s said may)
  step-falls more w n k goes stands party.Control a may = absurd may
  step-falls more w n k goes stands (party.Worker j) a may = worker-falls m l at w n k more stands goes j a may

  -- a turn passes, or leaves less
  turn-falls : (more : ℕ) (w : World V) (n k : ℕ) → Goes more w → Stands l n k w → (p : Party) (a : Play) (z : World V) → Turn m w p a z → (HasNoStep w p × (z ≡ w)) ⊎ Falls l (measure w + k) z
  turn-falls more w n k goes stands p play.Pass z turn = inl (turn.0, turn.1)
  turn-falls more w n k goes stands p a z turn = inr (let F : World V → Type 0 = λ x. Falls l (measure w + k) x in subst F (sym turn.1) (step-falls more w n k goes stands p a turn.0))

  -- where less is left, there is after a turn
  falls-on : (more total : ℕ) (w : World V) → Goes more w → Falls l total w → (p : Party) (a : Play) (z : World V) → Turn m w p a z → Falls l total z
  falls-on more total w goes f p a z turn =
      elim (turn-falls more w f.n f.k goes f.stands p a z turn) [
        | inl same ↦ (let F : World V → Type 0 = λ x. Falls l total x in subst F (sym same.1) f)
        | inr next ↦ record { n = next.n; k = next.k; stands = next.stands; less = omega (arith, next.less, f.less) }
      ]

  -- at rest each turn passes
  rest-run : (turns : List ℕ) (plays : List Play) (w z : World V) → IsAtRest w → IsRun m turns plays w z → IsAtRest z
  rest-run [] [] w z rest run = subst (λ (x : World V). IsAtRest x) (sym run) rest
  rest-run [] (a ∷ plays) w z rest run = absurd run
  rest-run (turn ∷ turns) [] w z rest run = absurd run
  rest-run (turn ∷ turns) (a ∷ plays) w z rest run =
      let R : World V → Type 0 = λ x. IsAtRest x in
      let mid : IsAtRest run.0 = turn-cases m w (party_of turn) run.0 (λ a. IsAtRest run.0) (λ same. subst R (sym same) rest) (λ a may is. absurd (rest (party_of turn) a may)) a run.1 in
      rest-run turns plays run.0 z mid run.2

  -- the rest of a run, from a world in which less is left
  record Next (turns : List ℕ) (total : ℕ) (z : World V) : Type 0 where
    mid : World V
    plays : List Play
    run : IsRun m turns plays mid z
    goes : Goes (length turns) mid
    falls : Falls l total mid

  -- no party has a step: there is one worker
  at-rest : (more : ℕ) (w : World V) (n k : ℕ) → Goes more w → Stands l n k w → HasNoStep w party.Guest → HasNoStep w party.Control → HasNoStep w (party.Worker 0) → IsAtRest w
  at-rest more w n k goes stands guest control worker party.Guest = guest
  at-rest more w n k goes stands guest control worker party.Control = control
  at-rest more w n k goes stands guest control worker (party.Worker zero) = worker
  at-rest more w n k goes stands guest control worker (party.Worker (suc j)) = λ a may.
      let within = within-phases w.wiring w.shared w.phases (suc j) a may in
      let sized = goes.sound.invariant.phases_size in
      let single = stands.one in
      omega (arith, within, sized, single)

  abbrev round : List ℕ → List ℕ
  round turns = 0 ∷ 1 ∷ 2 ∷ turns

  -- a round begins at rest, or less is left behind it
  one-round : (turns : List ℕ) (plays : List Play) (w z : World V) (n k : ℕ) → Goes (length (round turns)) w → Stands l n k w → IsRun m (round turns) plays w z → IsAtRest w ⊎ Next turns (measure w + k) z
  one-round turns [] w z n k goes stands run = absurd run
  one-round turns (a ∷ []) w z n k goes stands run = absurd run.2
  one-round turns (a ∷ b ∷ []) w z n k goes stands run = absurd run.2.2
  one-round turns (a ∷ b ∷ c ∷ plays) w z n k goes stands run =
      let total : ℕ = measure w + k in
      let more : ℕ = length turns in
      let x : World V = run.0 in
      let y : World V = run.2.0 in
      let v : World V = run.2.2.0 in
      let goes-x : Goes (suc (suc (length turns))) run.0 = goes-turn (suc (suc (length turns))) w party.Guest a run.0 goes run.1 in
      let goes-y : Goes (suc (length turns)) run.2.0 = goes-turn (suc (length turns)) run.0 party.Control b run.2.0 goes-x run.2.1 in
      let goes-v : Goes (length turns) run.2.2.0 = goes-turn (length turns) run.2.0 (party.Worker 0) c run.2.2.0 goes-y run.2.2.1 in
      let next : Falls l (measure w + k) run.2.2.0 → Next turns (measure w + k) z = λ falls. record { mid = run.2.2.0; plays = plays; run = run.2.2.2; goes = goes-v; falls = falls } in
      let late : Falls l (measure w + k) run.2.0 → Next turns (measure w + k) z = λ falls. next (falls-on (suc (length turns)) (measure w + k) run.2.0 goes-y falls (party.Worker 0) c run.2.2.0 run.2.2.1) in
      elim (turn-falls (length (round turns)) w n k goes stands party.Guest a run.0 run.1) [
        | inr falls ↦ inr (late (falls-on (suc (suc (length turns))) (measure w + k) run.0 goes-x falls party.Control b run.2.0 run.2.1))
        | inl first ↦
            (let T : World V → Type 0 = λ u. Turn m u party.Control b run.2.0 in
            elim (turn-falls (length (round turns)) w n k goes stands party.Control b run.2.0 (subst T first.1 run.2.1)) [
              | inr falls ↦ inr (late falls)
              | inl second ↦
                  (let U : World V → Type 0 = λ u. Turn m u (party.Worker 0) c run.2.2.0 in
                  elim (turn-falls (length (round turns)) w n k goes stands (party.Worker 0) c run.2.2.0 (subst U second.1 run.2.2.1)) [
                    | inr falls ↦ inr (next falls)
                    | inl third ↦ inl (at-rest (length (round turns)) w n k goes stands first.0 second.0 third.0)
                  ])
            ])
      ]

  -- with more rounds than is left the run ends at rest
  pub comes-to-rest : (rounds : ℕ) (plays : List Play) (w z : World V) (n k : ℕ) → Goes (length (repeat rounds (range_with_len 0 3))) w → Stands l n k w → IsRun m (repeat rounds (range_with_len 0 3)) plays w z → measure w + k < rounds → IsAtRest z
  comes-to-rest zero plays w z n k goes stands run enough = absurd (omega (arith, enough))
  comes-to-rest (suc rounds) plays w z n k goes stands run enough =
      elim (one-round (repeat rounds (range_with_len 0 3)) plays w z n k goes stands run) [
        | inl rest ↦ rest-run (repeat (suc rounds) (range_with_len 0 3)) plays w z rest run
        | inr next ↦ comes-to-rest rounds next.plays next.mid z next.falls.n next.falls.k next.goes next.falls.stands next.run (omega (arith, enough, next.falls.less))
      ]
