-- What holds of every run of a valid set-up, in the standard's terms (virtio 1.2, section 2.7).
use Rattle.std.specs.Prelude.{◌≡◌, ℕ, List, length}
use Rattle.vub_model.specs.declared.constants.Constants.{Constants}
use Rattle.vub_model.specs.declared.play.Play.{Play}
use Rattle.vub_model.specs.declared.setup.Setup.{Setup}
use Rattle.vub_model.specs.Answers.{FollowsPlans}
use Rattle.vub_model.specs.Bases.{given_base}
use Rattle.vub_model.specs.Entries.{TakesItsChain, TakesByFlags, KeepsItsEntry, UsesItsReply}
use Rattle.vub_model.specs.EntryNumber.{IsCounted}
use Rattle.vub_model.specs.Headline.{IsServed, TakesAreLive, IsConfined}
use Rattle.vub_model.specs.Logging.{KeepsLogs}
use Rattle.vub_model.specs.Opening.{opening, wiring_of, is_registered}
use Rattle.vub_model.specs.RunOf.{EachTurn, IsAtRest}
use Rattle.vub_model.specs.Running.{NoneIsLost, calm_end}
use Rattle.vub_model.specs.Schedule.{AllRung}
use Rattle.vub_model.specs.Service.{Meaning}
use Rattle.vub_model.specs.Shared.{Shared, ring_at}
use Rattle.vub_model.specs.Wiring.{PlacesAreFirst}
use Rattle.vub_model.specs.World.{World}

-- of each ring the next index is the number of its next entry modulo 65536
abbrev pub Counted : {V : Type 0} → Shared V → Type 0
Counted h = (queue : ℕ) → IsCounted (ring_at h queue)

-- Each take gave the entry that was next in its ring, as its slot and its chain say in the memory of its turn, from a
-- ring that was ready and enabled and had its addresses.
pub record ReadsChains {V : Type 0} (m : Meaning V) (schedule : List ℕ) (plays : List Play) (w : World V) : Type 0 where
  pub chains : EachTurn TakesItsChain m schedule plays w
  pub live : TakesAreLive m schedule plays w
  pub flags : EachTurn TakesByFlags m schedule plays w

-- Each use was that of an entry in hand, as it was read at taking, and its reply stands in the memory after its turn.
pub record PutsReplies {V : Type 0} (m : Meaning V) (schedule : List ℕ) (plays : List Play) (w : World V) : Type 0 where
  pub kept : EachTurn KeepsItsEntry m schedule plays w
  pub stand : EachTurn UsesItsReply m schedule plays w

-- at the opening and after each turn a worker with something pending hears of it
pub record RingsBells {V : Type 0} (m : Meaning V) (schedule : List ℕ) (plays : List Play) (w : World V) : Type 0 where
  pub first : AllRung w
  pub later : EachTurn (λ old p l new. AllRung new) m schedule plays w

-- The headline. In a run of the set-up from its opening to this world each queue took its entries once and in order
-- from each base, and used each with the service's reply to the bytes read at taking, but for at most one in flight or
-- held. An entry's number is its place in the ring, the first base is the given one, what was taken is what its chain
-- holds in the memory of its turn, and a reply stands in the memory after its turn; a worker wrote no byte but those of
-- its step, and each page that it wrote is in the dirty log or in a harvest. Each request was answered as its plan
-- says, a stop with the base at which the queue goes on elsewhere. Each queue is served by the first worker whose mask
-- has its bit, a worker with something pending hears of it, and at rest a calm running queue has no entry left.
pub record IsFaithful {V : Type 0} (m : Meaning V) (constants : Constants) (setup : Setup) (v : V)
    (schedule : List ℕ) (plays : List Play) (closing : World V) : Type 0 where
  pub served : IsServed m schedule plays (opening constants setup v) closing
  pub given : (queue : ℕ) → (ring_at (opening constants setup v).shared queue).base ≡ given_base setup.rings queue
  pub counted : Counted closing.shared
  pub reads : ReadsChains m schedule plays (opening constants setup v)
  pub puts : PutsReplies m schedule plays (opening constants setup v)
  pub confined : IsConfined m schedule plays (opening constants setup v)
  pub logged : KeepsLogs m schedule plays (opening constants setup v) closing
  pub plans : FollowsPlans m schedule plays (opening constants setup v)
  pub places : PlacesAreFirst (wiring_of constants (length setup.objects))
  pub bells : RingsBells m schedule plays (opening constants setup v)
  pub none_lost :
      IsAtRest closing →
      NoneIsLost closing (calm_end m schedule plays (opening constants setup v) (is_registered constants setup))
