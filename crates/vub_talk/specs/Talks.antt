-- A conversation between two batches.
use Rattle.std.specs.Prelude.{◌≡◌, false, List, length, None}
use Rattle.vub_mem.specs.Memory.{Guest}
use Rattle.vub_mem.specs.Place.{content_of}
use Rattle.vub_driver.specs.Law.{numbered}
use Rattle.vub_driver.specs.Machine.{Asked, World}
use Rattle.vub_driver.specs.State.{State}
use Rattle.vub_driver.specs.declared.done.Done.{Done}
use Rattle.vub_driver.proofs.Kept.{Keeps}
use Rattle.vub_model.specs.Service.{Meaning}
use Rattle.vub_talk.specs.Asking.{region}
use Rattle.vub_talk.specs.Replies.{replies_to, value_after}
use Rattle.vub_talk.specs.declared.fault.TalkFault.{TalkFault}
use Rattle.vub_talk.specs.declared.fault.TalkFault.TheVariants as fault

-- Driver and memory are those of a dialog with a device, without EVENT_IDX, in which all this was asked, taken, put and
-- collected; and the answers are the replies of a service that began with v, and has this value now.
pub record Talks {V : Type 0} (m : Meaning V) (v : V) (asked : List Asked) (s : State) (g : Guest) (answers : List Done)
    (service : V) : Type 0 where
  pub dialog : World
  pub keeps : Keeps region dialog
  pub driver : dialog.driver ≡ s
  pub memory : dialog.guest ≡ g
  pub off : dialog.ring.event_idx ≡ false
  pub held : dialog.held ≡ None
  pub all : dialog.asked ≡ asked
  pub taken : dialog.taken ≡ asked
  pub put : dialog.replies ≡ replies_to m v asked
  pub collected : dialog.answers ≡ answers
  pub whole : answers ≡ numbered 0 (replies_to m v asked)
  pub value : service ≡ value_after m v asked
  pub submits : s.submitted ≡ length asked
  pub collects : s.collected ≡ length asked
  pub long : length (content_of g.contents 0) ≡ 1048576

-- driver and memory are those of a dialog
abbrev pub IsTrusted : State → Guest → Type 0
IsTrusted s g = (d : World) × Keeps region d × (d.driver ≡ s) × (d.guest ≡ g)

-- the rounds of a batch were too few, or memory was refused
abbrev pub IsSlow : TalkFault → Type 0
IsSlow (fault.NotAtRest batch) = Unit {0}
IsSlow fault.OutOfMemory = Unit {0}
IsSlow e = ⊥
