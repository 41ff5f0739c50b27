-- What the front end is answered: each answer is that of its request's plan, and an answered base counts every entry
-- that was taken.
use Rattle.std.specs.Prelude.{◌≡◌, ℕ, ◌+◌, ◌%◌, ◌^◌, List, [], ◌∷◌, ◌++◌, length}
use Rattle.vub_mem.specs.declared.region.Region.{Region}
use Rattle.vub_proto.specs.declared.answer.Answer.{Answer}
use Rattle.vub_proto.specs.declared.answer.Answer.TheVariants as answer
use Rattle.vub_proto.specs.declared.request.Request.{Request}
use Rattle.vub_model.specs.declared.flight.Flight.TheVariants as flight
use Rattle.vub_model.specs.declared.party.Party.{Party}
use Rattle.vub_model.specs.declared.party.Party.TheVariants as party
use Rattle.vub_model.specs.declared.play.Play.{Play}
use Rattle.vub_model.specs.declared.play.Play.TheVariants as play
use Rattle.vub_model.specs.declared.small.Small.TheVariants.{Answer as Answering}
use Rattle.vub_model.specs.Bases.{numbers}
use Rattle.vub_model.specs.Control.{Control, answers_by}
use Rattle.vub_model.specs.Frame.{Frame, frame_of}
use Rattle.vub_model.specs.Headline.{takes_of}
use Rattle.vub_model.specs.Order.{InOrder, controls}
use Rattle.vub_model.specs.Plans.{next_of, plan_of}
use Rattle.vub_model.specs.RunOf.{EachTurn}
use Rattle.vub_model.specs.Service.{Meaning}
use Rattle.vub_model.specs.Shared.{ring_at}
use Rattle.vub_model.specs.Wiring.{Wiring}
use Rattle.vub_model.specs.World.{World}

-- an Answer gives what its plan says, and no other step gives an answer
abbrev pub AnswersItsPlan : {V : Type 0} → World V → Party → Play → World V → Type 0
AnswersItsPlan old party.Control (play.Control s said) new =
    new.control.answers ≡ old.control.answers ++ answers_by old.shared s old.control.plan
AnswersItsPlan old p l new = new.control.answers ≡ old.control.answers

-- how many entries were taken of a queue since its last base
abbrev pub taken_since : {V : Type 0} → World V → ℕ → ℕ
taken_since w queue = length (numbers (ring_at w.shared queue).epoch (takes_of queue w.takes))

-- These answers are the queue's last base with the entries taken since, in 16 bits, and none of them is in flight.
pub record IsBaseAnswer {V : Type 0} (w : World V) (queue : ℕ) (answers : List Answer) : Type 0 where
  pub number :
      answers ≡ answer.Base queue (((ring_at w.shared queue).base + taken_since w queue) % 2 ^ 16) ∷ []
  pub landed : (ring_at w.shared queue).flight ≡ flight.InFlight → ⊥

-- an Answer that is to tell the base of a queue does so
abbrev pub AnswersItsBase : {V : Type 0} → World V → Party → Play → World V → Type 0
AnswersItsBase old party.Control (play.Control Answering said) new =
    (queue : ℕ) →
    old.control.plan.reply ≡ next_of queue →
    IsBaseAnswer old queue (answers_by old.shared Answering old.control.plan)
AnswersItsBase old p l new = Unit {0}

-- With the first of these requests its plan begins, which is fixed by what is shared and by the session then; where
-- none is left, control has no step.
abbrev pub Begins : Wiring → Frame → List Region → Control → List Request → Type 0
Begins g f regions c [] = c.plan.steps ≡ []
Begins g f regions c (r ∷ more) = (c.plan ≡ plan_of g f regions c.session r) × (c.requests ≡ more)

-- an Answer ends its plan, and the next request begins
abbrev pub BeginsNext : {V : Type 0} → World V → Party → Play → World V → Type 0
BeginsNext old party.Control (play.Control Answering said) new =
    Begins new.wiring (frame_of new.shared) new.shared.guest.regions new.control old.control.requests
BeginsNext old p l new = Unit {0}

-- Control's steps are those of the requests' plans, in order and plan by plan, each of which begins where the one
-- before ends; each Answer gives what its plan says, and one that tells a base tells the base at which the queue goes
-- on elsewhere.
pub record FollowsPlans {V : Type 0} (m : Meaning V) (schedule : List ℕ) (plays : List Play)
    (w : World V) : Type 0 where
  pub steps : InOrder w.wiring w.control.plan w.control.requests (controls schedule plays)
  pub begins : EachTurn BeginsNext m schedule plays w
  pub answers : EachTurn AnswersItsPlan m schedule plays w
  pub bases : EachTurn AnswersItsBase m schedule plays w
