-- Rounds that are enough for a batch.
use Rattle.std.specs.Prelude.{◌≡◌, ℕ, ◌+◌, ◌*◌, ◌-◌, ◌^◌, ◌<◌, ◌≤◌, min, List, [], ◌∷◌, ◌++◌, length}
use Rattle.vub_mem.specs.Memory.{Guest}
use Rattle.vub_mem.specs.Place.{content_of}
use Rattle.vub_driver.specs.Places.{half_of}
use Rattle.vub_driver.specs.declared.layout.Layout.{Layout}
use Rattle.vub_model.specs.declared.constants.Constants.{Constants}
use Rattle.vub_model.specs.declared.setup.Guest.TheVariants.{Signal}
use Rattle.vub_model.specs.declared.setup.Setup.{Setup}
use Rattle.vub_talk.specs.Asking.{AreSmall}
use Rattle.vub_talk.specs.Batches.{asks_stored, batch_setup, schedule_of}
use Rattle.vub_talk.specs.Ready.{IsLaid, IsReady}
use Rattle.vub_talk.specs.declared.ask.Ask.{Ask}
use Rattle.vub_talk.specs.declared.fault.TalkFault.{TalkFault}
use Rattle.vub_talk.specs.declared.fault.TalkFault.TheVariants as fault

-- The set-up is that of a batch of these asks, over guest memory that is ready, for a device with a queue.
pub record IsBatch (k : Constants) (setup : Setup) : Type 0 where
  pub layout : Layout
  pub number : ℕ
  pub guest : Guest
  pub asks : List Ask
  pub setup_is :
      setup
      ≡ batch_setup layout number (content_of guest.contents 0) (asks_stored layout number asks ++ Signal 1 ∷ [])
  pub queues : 0 < k.queues
  pub laid : IsLaid layout
  pub small : AreSmall layout asks
  pub ready : IsReady layout number guest

-- The device has one worker, so that three parties have a turn in each round: the guest, control and the worker. For
-- each ask there are thirteen rounds, and 26 besides.
pub record IsAmple (k : Constants) (setup : Setup) (schedule : List ℕ) : Type 0 where
  pub batch : IsBatch k setup
  pub one : length k.masks ≡ 1
  pub rounds : ℕ
  pub schedule_is : schedule ≡ schedule_of rounds 3
  pub enough : 13 * length batch.asks + 26 ≤ rounds
  pub few : rounds < 2 ^ 32

-- where it is that a party still had a step, this is the batch, and for its asks there were fewer rounds
abbrev pub IsFew : ℕ → ℕ → ℕ → TalkFault → Type 0
IsFew asks batch rounds (fault.NotAtRest b) = (b ≡ batch) × (rounds < 13 * asks + 26)
IsFew asks batch rounds e = Unit {0}

-- how many asks a batch has
abbrev pub batch_len : Layout → List Ask → ℕ → ℕ
batch_len l asks batch = min (half_of l) (length asks - batch * half_of l)

-- the rounds were fewer than thirteen for each ask of the batch, and 26
abbrev pub AreFew : Layout → List Ask → ℕ → TalkFault → Type 0
AreFew l asks rounds (fault.NotAtRest batch) = rounds < 13 * batch_len l asks batch + 26
AreFew l asks rounds e = Unit {0}

-- it is not that
abbrev pub IsNoRest : TalkFault → Type 0
IsNoRest (fault.NotAtRest batch) = ⊥
IsNoRest e = Unit {0}
