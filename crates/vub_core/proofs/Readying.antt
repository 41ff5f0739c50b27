-- What control relies on at its turn holds in every sound world.
use Rattle.std.proofs.Common.{◌≡◌, ℕ, suc, ◌+◌, ◌&&◌, true, List, [], ◌∷◌, length, None, is_some, refl, sym, ap, subst, ◌∙◌, arith}
use Rattle.std.proofs.Math.ListN.{get_or-map}
use Rattle.std.proofs.lemmas.Bool.{lt-ltb}
use Rattle.vub_event.specs.HostTable.{has_event}
use Rattle.vub_event.specs.HostCalls.{has_both}
use Rattle.vub_model.specs.declared.small.Small.{Small}
use Rattle.vub_model.specs.declared.small.Small.TheVariants.{Claim, Add, Delete, Listen, Unlisten}
use Rattle.vub_model.specs.Frame.{frame_of, is_there}
use Rattle.vub_model.specs.Shared.{Shared}
use Rattle.vub_model.specs.Wiring.{opened_at}
use Rattle.vub_model.specs.World.{World}
use Rattle.vub_model.proofs.Drive.{first-is, add-there, delete-there, claim-there, listen-there, listen-list, unlisten-there, unlisten-list, HasList}
use Rattle.std.specs.List.{AllByRecursion}
use Rattle.vub_model.specs.declared.setup.Guest.{Guest}
use Rattle.vub_model.specs.declared.setup.Guest.TheVariants.{Store, Signal, Harvest}
use Rattle.vub_model.proofs.LogSound.{LogsSound, CanHarvest}
use Rattle.vub_model.proofs.Sound.{IsSound}
use Rattle.vub_handler.specs.Acting.{IsNamed}
use Rattle.vub_core.specs.Ready.{FirstIsNamed, NextMayAct}

has-event : {V : Type 0} (h : Shared V) (o : ℕ) → is_there (frame_of h) o ≡ true → has_event h.table o ≡ true
has-event h o is = sym (get_or-map is_some h.table.objects o None) ∙ is

module _ {V : Type 0} (n : ℕ) (w : World V) (sound : IsSound n w) where
  both : (k o : ℕ) → HasList w k → is_there (frame_of w.shared) o ≡ true → has_both w.shared.table (opened_at w.wiring k).list o ≡ true
  both k o list is = ap (λ b. b && has_event w.shared.table o) (lt-ltb (opened_at w.wiring k).list (length w.shared.table.lists) list.list) ∙ has-event w.shared o is

  step-named : (s : Small) (rest : List Small) → w.control.plan.steps ≡ s ∷ rest → IsNamed w.wiring w.shared.table s
  step-named (Claim o q) rest is = has-event w.shared o (claim-there n w sound o q (first-is w (Claim o q) rest is))
  step-named (Add k o t) rest is = has-event w.shared o (add-there n w sound k o t (first-is w (Add k o t) rest is))
  step-named (Delete k o) rest is = has-event w.shared o (delete-there n w sound k o (first-is w (Delete k o) rest is))
  step-named (Listen k o t) rest is = (let first = first-is w (Listen k o t) rest is in both k o (listen-list n w sound k o t first) (listen-there n w sound k o t first))
  step-named (Unlisten k o above) rest is = (let first = first-is w (Unlisten k o above) rest is in both k o (unlisten-list n w sound k o above first) (unlisten-there n w sound k o above first))
  step-named s rest is = tt

  pub first-named : FirstIsNamed w.wiring w.shared.table w.control.plan.steps
  first-named = by w.control.plan.steps refl where
    by : (steps : List Small) → w.control.plan.steps ≡ steps → FirstIsNamed w.wiring w.shared.table steps
    by [] is = tt
    by (s ∷ rest) is = step-named s rest is

-- The guest's next action, if it is a harvest, may be made: its log has the word, and no word was harvested as often as it
-- can be, since a guest has no more than 1048576 actions.
pub next-acts : {V : Type 0} (w : World V) → LogsSound w → NextMayAct w.shared.logs w.guest
next-acts w sound = by w.guest refl where
  by : (actions : List Guest) → w.guest ≡ actions → NextMayAct w.shared.logs actions
  by [] is = tt
  by (Store object offset bytes ∷ actions) is = tt
  by (Signal object ∷ actions) is = tt
  by (Harvest object word ∷ actions) is =
      let All : List Guest → Type 0 = λ l. AllByRecursion (CanHarvest w.shared.logs) l in
      let some : length w.guest ≡ suc (length actions) = ap length is in
      let few = sound.few in
      let counted = sound.counted object word in
      record { has = (subst All is sound.able).0; left = omega (arith, some, few, counted) }
