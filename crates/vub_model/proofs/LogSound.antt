-- What is known of logs and harvests wherever a run of a valid set-up comes to.
use Rattle.std.proofs.Common.{◌≡◌, ℕ, suc, ◌+◌, ◌*◌, ◌<◌, ◌≤◌, List, [], ◌∷◌, length, refl, sym, ap, ◌∙◌, subst, arith, length-append}
use Rattle.std.specs.List.{AllByRecursion}
use Rattle.vub_mem.specs.declared.dirty.Stored.{Stored}
use Rattle.vub_mem.specs.declared.region.Region.{Region}
use Rattle.vub_mem.proofs.Finds.{all_from}
use Rattle.vub_log.specs.Plain.{Plain, harvest_count}
use Rattle.vub_model.specs.declared.party.Party.{Party}
use Rattle.vub_model.specs.declared.party.Party.TheVariants as party
use Rattle.vub_model.specs.declared.play.Play.{Play}
use Rattle.vub_model.specs.declared.play.Play.TheVariants as play
use Rattle.vub_model.specs.declared.setup.Guest.{Guest}
use Rattle.vub_model.specs.declared.setup.Guest.TheVariants.{Store, Signal, Harvest}
use Rattle.vub_model.specs.Logging.{ranges_by}
use Rattle.vub_model.specs.Logs.{log_at}
use Rattle.vub_model.specs.RunOf.{Turn}
use Rattle.vub_model.specs.Service.{Meaning}
use Rattle.vub_model.specs.Shared.{Shared}
use Rattle.vub_model.specs.Work.{after_work}
use Rattle.vub_model.specs.World.{World, May, after, after_guest, after_control, acted, harvests_by, phase_at}
use Rattle.vub_model.proofs.Confined.{confined-work}
use Rattle.vub_model.proofs.LogBits.{marks-keep, marks-words, harvest-keeps, harvest-words, harvest-counts}
use Rattle.vub_model.proofs.LogFits.{LogsFit, logs-fit, small-logs, fit-small}
use Rattle.vub_model.proofs.LogRanges.{marks_for, logs_after, logs-work}
use Rattle.vub_model.proofs.Shapes.{acted-shape}
use Rattle.vub_model.proofs.Turns.{turn-cases}

-- a harvest is of a word that its log has
abbrev pub CanHarvest : List (Stored Plain) → Guest → Type 0
CanHarvest logs (Harvest object word) = 4 * word < (log_at logs object).len
CanHarvest logs action = Unit {0}

pub record LogsSound {V : Type 0} (w : World V) : Type 0 where
  pub fit : LogsFit w.shared.guest.regions w.shared.logs
  -- no word was harvested more often than the guest harvested
  pub counted : (object word : ℕ) → harvest_count (log_at w.shared.logs object) word ≤ length w.harvests
  -- what the guest harvested and what is left of its actions is no more than a set-up may have
  pub few : length w.harvests + length w.guest ≤ 1048576
  pub able : AllByRecursion (CanHarvest w.shared.logs) w.guest

can-still : (a b : List (Stored Plain)) → ((o : ℕ) → (log_at b o).len ≡ (log_at a o).len) → (action : Guest) → CanHarvest a action → CanHarvest b action
can-still a b lens (Harvest object word) can = omega (arith, can, lens object)
can-still a b lens (Store object offset bytes) can = tt
can-still a b lens (Signal object) can = tt

module _ {V : Type 0} (h : Shared V) where
  acted-lens : (action : Guest) (o : ℕ) → (log_at (acted h action).logs o).len ≡ (log_at h.logs o).len
  acted-lens (Store object offset bytes) o = refl
  acted-lens (Signal object) o = refl
  acted-lens (Harvest object word) o = harvest-keeps (λ log. log.len) (λ log word. refl) h.logs object word o

  acted-words : (action : Guest) (o : ℕ) → length (log_at (acted h action).logs o).words ≡ length (log_at h.logs o).words
  acted-words (Store object offset bytes) o = refl
  acted-words (Signal object) o = refl
  acted-words (Harvest object word) o = harvest-words h.logs object word o

  acted-counts : (action : Guest) (o n : ℕ) → harvest_count (log_at (acted h action).logs o) n ≤ harvest_count (log_at h.logs o) n + length (harvests_by h action)
  acted-counts (Store object offset bytes) o n = omega arith
  acted-counts (Signal object) o n = omega arith
  acted-counts (Harvest object word) o n = harvest-counts h.logs object word o n

  one-harvest : (action : Guest) → length (harvests_by h action) ≤ 1
  one-harvest (Store object offset bytes) = omega arith
  one-harvest (Signal object) = omega arith
  one-harvest (Harvest object word) = omega arith

-- other logs and regions

module _ {V : Type 0} (w : World V) (s : LogsSound w) where
  abbrev h : Shared V
  h = w.shared

  guest-sound : (actions : List Guest) → w.guest ≡ actions → LogsSound (after_guest w actions)
  guest-sound [] is = s
  guest-sound (action ∷ actions) is =
      let Fit : List Region → Type 0 = λ rs. LogsFit rs (acted h action).logs in
      let All : List Guest → Type 0 = λ l. AllByRecursion (CanHarvest h.logs) l in
      let left : length w.guest ≡ suc (length actions) = ap length is in
      let more = length-append w.harvests (harvests_by h action) in
      record {
        fit = subst Fit (sym (acted-shape h action).regions) (logs-fit h.guest.regions h.logs (acted h action).logs (acted-lens h action) (acted-words h action) s.fit);
        counted = λ object word. omega (arith, acted-counts h action object word, s.counted object word, more);
        few = omega (arith, s.few, left, more, one-harvest h action);
        able = all_from (CanHarvest h.logs) (CanHarvest (acted h action).logs) actions (can-still h.logs (acted h action).logs (acted-lens h action)) (subst All is s.able).1;
      }

  -- logs that keep their lengths and counts
  module _ (z : World V) (guest : z.guest ≡ w.guest) (harvests : z.harvests ≡ w.harvests) (logs : List (Stored Plain)) (are : z.shared.logs ≡ logs)
      (lens : (o : ℕ) → (log_at logs o).len ≡ (log_at h.logs o).len) (counts : (o n : ℕ) → harvest_count (log_at logs o) n ≡ harvest_count (log_at h.logs o) n)
      (fit : LogsFit z.shared.guest.regions z.shared.logs) where
    kept-sound : LogsSound z
    kept-sound =
        let len = ap length harvests in
        let left = ap length guest in
        let All : List Guest → Type 0 = λ l. AllByRecursion (CanHarvest z.shared.logs) l in
        record {
          fit = fit;
          counted = λ object word. (let e = ap (λ l. harvest_count (log_at l object) word) are in omega (arith, e, counts object word, s.counted object word, len));
          few = omega (arith, s.few, len, left);
          able = subst All (sym guest) (all_from (CanHarvest h.logs) (CanHarvest z.shared.logs) w.guest (can-still h.logs z.shared.logs (λ o. ap (λ l. (log_at l o).len) are ∙ lens o)) s.able);
        }

  module _ (m : Meaning V) where
    work-sound : (k : ℕ) (l : Play) → LogsSound (after m w (party.Worker k) l)
    work-sound k l =
        let phase = phase_at w.phases k in
        let logs : List (Stored Plain) = logs_after h (ranges_by h l phase) in
        let are : (after_work m w.wiring k h phase l).shared.logs ≡ logs = logs-work h m w.wiring k phase l in
        let marks = marks_for h.guest.regions (ranges_by h l phase) in
        let lens = marks-keep (λ log. log.len) (λ log page. refl) marks h.logs in
        let Fit : List Region → Type 0 = λ rs. LogsFit rs (after_work m w.wiring k h phase l).shared.logs in
        let With : List (Stored Plain) → Type 0 = λ l. LogsFit h.guest.regions l in
        let fit = subst With (sym are) (logs-fit h.guest.regions h.logs logs lens (marks-words marks h.logs) s.fit) in
        kept-sound (after m w (party.Worker k) l) refl refl logs are lens
        (λ o n. marks-keep (λ log. harvest_count log n) (λ log page. refl) marks h.logs o)
        (subst Fit (sym (confined-work h m w.wiring k phase l).regions) fit)

    step-sound : (p : Party) (l : Play) → May w p l → LogsSound (after m w p l)
    step-sound party.Guest play.Guest may = guest-sound w.guest refl
    step-sound party.Control (play.Control small said) may =
        kept-sound (after_control w small said) refl refl h.logs (small-logs w.wiring h small) (λ o. refl) (λ o n. refl) (fit-small w.wiring h s.fit small)
    step-sound (party.Worker k) l may = work-sound k l
    step-sound p l may = absurd may

-- a turn leaves it so
pub logs-turn : {V : Type 0} (m : Meaning V) (w : World V) (p : Party) (z : World V) → LogsSound w → (l : Play) → Turn m w p l z → LogsSound z
logs-turn m w p z s =
    turn-cases m w p z (λ l. LogsSound z)
    (λ same. subst (λ (x : World _). LogsSound x) (sym same) s)
    (λ l may is. subst (λ (x : World _). LogsSound x) (sym is) (step-sound w s m p l may))
