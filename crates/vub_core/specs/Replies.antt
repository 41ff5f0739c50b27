-- Replies that fit: none is longer than the room that was read when its entry was taken.
use Rattle.std.specs.Prelude.{◌≡◌, ◌≤◌, ℕ, List, [], ◌∷◌, length}
use Rattle.std.specs.List.{AllByRecursion}
use Rattle.vub_proto.specs.declared.used.Used.{Used}
use Rattle.vub_model.specs.declared.play.Play.{Play}
use Rattle.vub_model.specs.declared.records.Take.{Take}
use Rattle.vub_model.specs.declared.run.Run.{Run}
use Rattle.vub_model.specs.Headline.{Asked, asked, takes_of, uses_of}
use Rattle.vub_model.specs.Service.{Meaning}
use Rattle.vub_model.specs.World.{World}

-- the reply that a call of the service gave is no longer than the room of the entry that it was asked for
abbrev pub FitsItsRoom : Asked → Type 0
FitsItsRoom a = length a.reply ≤ a.room

-- so it is of each call in a run, whether or not its entry is used
abbrev pub CallsFit : {V : Type 0} → Meaning V → List ℕ → List Play → World V → Type 0
CallsFit m schedule plays w = AllByRecursion FitsItsRoom (asked m schedule plays w)

-- The use is that of the entry which this take read, and its reply is no longer than the room that was read then.
pub record FitsTake (t : Take) (u : Used) : Type 0 where
  pub queue : u.queue ≡ t.queue
  pub epoch : u.epoch ≡ t.epoch
  pub number : u.number ≡ t.number
  pub head : u.head ≡ t.head
  pub reply : length u.reply ≤ t.room

-- each use is so with the take at its place in these lists
abbrev pub UsesFit : List Take → List Used → Type 0
UsesFit takes [] = Unit {0}
UsesFit [] (u ∷ uses) = ⊥
UsesFit (t ∷ takes) (u ∷ uses) = FitsTake t u × UsesFit takes uses

-- Each reply that the service gave in a run fits the room of its entry. In what the run hands back, each use of a queue
-- is that of the queue's take at the same place, and its reply fits the room that the take read.
pub record RepliesFit {V : Type 0} (m : Meaning V) (schedule : List ℕ) (plays : List Play) (opening : World V)
    (run : Run) : Type 0 where
  pub calls : CallsFit m schedule plays opening
  pub uses : (queue : ℕ) → UsesFit (takes_of queue run.takes) (uses_of queue run.uses)
