-- After each turn a worker with something pending hears of it: its bell is above zero, or it sweeps, or control is about to
-- ring it.
use Rattle.std.proofs.Common.{ℕ, List, length}
use Rattle.vub_model.specs.declared.play.Play.{Play}
use Rattle.vub_model.specs.Faithful.{RingsBells}
use Rattle.vub_model.specs.RunOf.{IsRun}
use Rattle.vub_model.specs.Schedule.{AllRung}
use Rattle.vub_model.specs.Service.{Meaning}
use Rattle.vub_model.specs.World.{World}
use Rattle.vub_model.proofs.Sound.{IsSound, each-sound, sound-turn}

pub bells-ring : {V : Type 0} (m : Meaning V) (turns : List ℕ) (plays : List Play) (w z : World V) → IsSound (length turns) w → IsRun m turns plays w z → RingsBells m turns plays w
bells-ring m turns plays w z sound run = record {
  first = sound.invariant.rung;
  later = each-sound m (λ old p l new. AllRung new) (λ n w p l z s turn. (sound-turn m n w p l z s turn).invariant.rung) turns plays w z sound run;
}
