-- What is known of the world wherever a run comes to: the schedule invariant, with fewer takes than the limit, the
-- numbers and sizes of the rings and the numbers of the takes, and that regions, logs and harvests fit each other.
use Rattle.std.proofs.Common.{ℕ, suc, Bool, List, length, arith}
use Rattle.vub_model.specs.declared.party.Party.{Party}
use Rattle.vub_model.specs.declared.play.Play.{Play}
use Rattle.vub_model.specs.EntryNumber.{IsCounted}
use Rattle.vub_model.specs.Faithful.{Counted}
use Rattle.vub_model.specs.Running.{calm_after}
use Rattle.vub_model.specs.RunOf.{Turn, IsRun, EachTurn}
use Rattle.vub_model.specs.Schedule.{Invariant}
use Rattle.vub_model.specs.Service.{Meaning}
use Rattle.vub_model.specs.World.{World}
use Rattle.vub_model.proofs.Counted.{counted-writes}
use Rattle.vub_model.proofs.EachRing.{AllRings, turn-kept}
use Rattle.vub_model.proofs.EachTurns.{each-turn}
use Rattle.vub_model.proofs.LogSound.{LogsSound, logs-turn}
use Rattle.vub_model.proofs.Numbers.{Numbered}
use Rattle.vub_model.proofs.SchedRuns.{IsFew, invariant-turn, few-turn}
use Rattle.vub_model.proofs.Served.{number-turn}
use Rattle.vub_model.proofs.Sized.{IsSized, sized-writes}

-- with so many turns to go
pub record IsSound {V : Type 0} (more : ℕ) (w : World V) : Type 0 where
  pub calm : ℕ → Bool
  pub few : IsFew w more
  pub invariant : Invariant w calm
  pub counted : Counted w.shared
  pub sized : AllRings IsSized w.shared
  pub numbered : Numbered w
  pub logs : LogsSound w

-- a turn goes on from a sound world to one, with one turn less to go
pub sound-turn : {V : Type 0} (m : Meaning V) (n : ℕ) (w : World V) (p : Party) (l : Play) (z : World V) → IsSound (suc n) w → Turn m w p l z → IsSound n z
sound-turn m n w p l z s turn =
    let now : IsFew w 0 = λ q. let f = s.few q in omega (arith, f) in
    record {
      calm = calm_after w p l z s.calm;
      few = few-turn m w p z s.calm n (λ q. let f = s.few q in omega (arith, f)) s.invariant l turn;
      invariant = invariant-turn m w p z s.calm now s.invariant l turn;
      counted = turn-kept IsCounted counted-writes m w s.calm s.invariant s.counted p z l turn;
      sized = turn-kept IsSized sized-writes m w s.calm s.invariant s.sized p z l turn;
      numbered = number-turn m w s.calm p z s.invariant s.numbered l turn;
      logs = logs-turn m w p z s.logs l turn;
    }

-- what a turn shows of a sound world shows at each turn of a run from one
pub each-sound : {V : Type 0} (m : Meaning V) (P : World V → Party → Play → World V → Type 0)
    → ((n : ℕ) (w : World V) (p : Party) (l : Play) (z : World V) → IsSound (suc n) w → Turn m w p l z → P w p l z)
    → (turns : List ℕ) (plays : List Play) (w z : World V) → IsSound (length turns) w → IsRun m turns plays w z → EachTurn P m turns plays w
each-sound {V} m P shows turns plays w z sound run =
    (each-turn m (λ n (x : World V). IsSound n x) P (λ n w p l z s turn. (shows n w p l z s turn, sound-turn m n w p l z s turn)) turns plays w z sound run).0

-- and a run to its end
pub sound-run : {V : Type 0} (m : Meaning V) (turns : List ℕ) (plays : List Play) (w z : World V) → IsSound (length turns) w → IsRun m turns plays w z → IsSound 0 z
sound-run {V} m turns plays w z sound run =
    (each-turn m (λ n (x : World V). IsSound n x) (λ w p l z. Unit {0}) (λ n w p l z s turn. (tt, sound-turn m n w p l z s turn)) turns plays w z sound run).1
