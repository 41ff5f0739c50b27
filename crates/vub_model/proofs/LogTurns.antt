-- What a turn makes of the marks: a page that is written stands after it, a page that stood stands or was handed out,
-- and no other page stands.
use Rattle.std.proofs.Common.{◌≡◌, ◌⊎◌, inl, inr, ℕ, ◌+◌, ◌-◌, ◌*◌, ◌/◌, ◌%◌, ◌<◌, ◌≤◌, eqb, leb, ltb, List, [], ◌∷◌, ◌++◌, length, refl, sym, ap, ◌∙◌, subst, arith, append-nil}
use Rattle.std.specs.Int.{bit_at}
use Rattle.std.proofs.lemmas.Bool.{cases_Bool, and_parts, eqb-true, eqb-false, leb-true, ltb-true}
use Rattle.vub_mem.specs.declared.dirty.Stored.{Stored}
use Rattle.vub_mem.specs.declared.region.Region.{Region}
use Rattle.vub_mem.specs.Laws.{MeetsPage}
use Rattle.vub_mem.specs.Marks.{Mark}
use Rattle.vub_mem.specs.Sound.{IsLogged}
use Rattle.vub_mem.proofs.Ranges.{find_all, find_holds}
use Rattle.vub_log.specs.Plain.{Plain}
use Rattle.vub_model.specs.declared.party.Party.{Party}
use Rattle.vub_model.specs.declared.party.Party.TheVariants as party
use Rattle.vub_model.specs.declared.phase.Phase.{Phase}
use Rattle.vub_model.specs.declared.play.Play.{Play}
use Rattle.vub_model.specs.declared.play.Play.TheVariants as play
use Rattle.vub_model.specs.declared.records.Harvested.{Harvested}
use Rattle.vub_model.specs.declared.setup.Guest.{Guest}
use Rattle.vub_model.specs.declared.setup.Guest.TheVariants.{Store, Signal, Harvest}
use Rattle.vub_model.specs.Logging.{Range, ranges_by, IsDirty, Stands, IsHandedOut, IsUnharvested}
use Rattle.vub_model.specs.Logs.{log_at, word_at, bit_in}
use Rattle.vub_model.specs.RunOf.{Turn}
use Rattle.vub_model.specs.Service.{Meaning}
use Rattle.vub_model.specs.Shared.{Shared}
use Rattle.vub_model.specs.World.{World, May, after, after_guest, after_control, harvests_by, phase_at}
use Rattle.vub_model.proofs.LogBits.{len-at, marks-stand, marks-set, marks-only, harvest-own, harvest-other}
use Rattle.vub_model.proofs.LogFits.{LogsFit, small-logs}
use Rattle.vub_model.proofs.LogRanges.{marks_for, logs_after, logs-work, met-marked, marked-met}
use Rattle.vub_model.proofs.LogSound.{LogsSound}
use Rattle.vub_model.proofs.Turns.{turn-cases}

-- A turn, and the harvests in it
pub record Logs {V : Type 0} (w : World V) (p : Party) (l : Play) (z : World V) : Type 0 where
  pub more : List Harvested
  pub harvests : z.harvests ≡ w.harvests ++ more
  pub stays : (m : Mark) → Stands w m → Stands z m ⊎ IsHandedOut m more
  pub marks : (m : Mark) → IsDirty w p l m → Stands z m × (more ≡ [])
  pub only : (m : Mark) → Stands z m → (Stands w m × IsUnharvested m more) ⊎ (IsDirty w p l m × (more ≡ []))

-- a page that a range meets in a region is one of the region's log
met-within : (rs : List Region) (logs : List (Stored Plain)) → LogsFit rs logs → (a n : ℕ) (m : Mark) → MeetsPage rs a n m → m.page < 32 * length (log_at logs m.object).words
met-within rs logs fit a n m meets =
    let r = meets.region in
    let l = meets.log in
    let at : ℕ = a + meets.behind in
    let within = and_parts (leb r.start at) (ltb (at - r.start) r.len) (find_holds rs at r meets.lies) in
    let low : r.start ≤ at = leb-true r.start at within.0 in
    let high : at - r.start < r.len = ltb-true (at - r.start) r.len within.1 in
    let logged : IsLogged (λ (log : Plain). log.len) logs r = find_all (λ q. IsLogged (λ (log : Plain). log.len) logs q) rs at r fit.logged meets.lies in
    let last = logged l meets.logged in
    let P : Mark → Type 0 = λ x. x.page < 32 * length (log_at logs x.object).words in
    subst P (sym meets.is) (omega (arith, last, low, high, len-at logs l.object, fit.whole l.object))

-- a harvest is one of the page's word, or not
of-word : (object word : ℕ) (m : Mark) → ((object ≡ m.object) × (word ≡ m.page / 32)) ⊎ (object ≡ m.object → word ≡ m.page / 32 → ⊥)
of-word object word m =
    elim (cases_Bool (eqb object m.object)) [
      | inl here ↦ elim (cases_Bool (eqb word (m.page / 32))) [
        | inl same ↦ inl (eqb-true object m.object here, eqb-true word (m.page / 32) same)
        | inr other ↦ inr (λ _ is. eqb-false word (m.page / 32) other is)
      ]
      | inr there ↦ inr (λ is _. eqb-false object m.object there is)
    ]

module _ {V : Type 0} (w : World V) where
  abbrev h : Shared V
  h = w.shared

  -- a turn that leaves logs and harvests, and writes nothing
  quiet : (p : Party) (l : Play) (z : World V) → z.harvests ≡ w.harvests → z.shared.logs ≡ h.logs → ((m : Mark) → IsDirty w p l m → ⊥) → Logs w p l z
  quiet p l z harvests logs clean = record {
    more = [];
    harvests = harvests ∙ sym (append-nil w.harvests);
    stays = λ m stands. inl (let P : List (Stored Plain) → Type 0 = λ l. bit_in l m ≡ 1 in subst P (sym logs) stands);
    marks = λ m dirty. absurd (clean m dirty);
    only = λ m stands. inl (let P : List (Stored Plain) → Type 0 = λ l. bit_in l m ≡ 1 in subst P logs stands, tt);
  }

  handed : (object word : ℕ) (m : Mark) → object ≡ m.object → word ≡ m.page / 32 → Stands w m → bit_at (word_at (log_at h.logs object) word) (m.page % 32) ≡ 1
  handed object word m here same stands =
      let P : ℕ → ℕ → Type 0 = λ o n. bit_at (word_at (log_at h.logs o) n) (m.page % 32) ≡ 1 in
      let Q : ℕ → Type 0 = λ o. P o word in
      subst Q (sym here) (let R : ℕ → Type 0 = λ n. P m.object n in subst R (sym same) stands)

  harvest-turn : (object word : ℕ) (actions : List Guest) → Logs w party.Guest play.Guest (after_guest w (Harvest object word ∷ actions))
  harvest-turn object word actions = record {
    more = harvests_by h (Harvest object word);
    harvests = refl;
    stays = λ m stands. elim (of-word object word m) [
      | inl own ↦ inr (inl (own, handed object word m own.0 own.1 stands))
      | inr other ↦ inl (harvest-other h.logs object word m other ∙ stands)
    ];
    marks = λ m dirty. absurd dirty;
    only = λ m stands. elim (of-word object word m) [
      | inl own ↦ absurd (harvest-own h.logs object word m own.0 own.1 stands)
      | inr other ↦ inl (sym (harvest-other h.logs object word m other) ∙ stands, ((λ is. other is.0 is.1), tt))
    ];
  }

  guest-turn : (actions : List Guest) → Logs w party.Guest play.Guest (after_guest w actions)
  guest-turn [] = quiet party.Guest play.Guest w refl refl (λ m dirty. dirty)
  guest-turn (Store object offset bytes ∷ actions) = quiet party.Guest play.Guest (after_guest w (Store object offset bytes ∷ actions)) (append-nil w.harvests) refl (λ m dirty. dirty)
  guest-turn (Signal object ∷ actions) = quiet party.Guest play.Guest (after_guest w (Signal object ∷ actions)) (append-nil w.harvests) refl (λ m dirty. dirty)
  guest-turn (Harvest object word ∷ actions) = harvest-turn object word actions

  pass-clean : (p : Party) (m : Mark) → IsDirty w p play.Pass m → ⊥
  pass-clean party.Guest m dirty = dirty
  pass-clean party.Control m dirty = dirty
  pass-clean (party.Worker k) m dirty = dirty.1

  module _ (meaning : Meaning V) (s : LogsSound w) where
    work-turn : (k : ℕ) (l : Play) → Logs w (party.Worker k) l (after meaning w (party.Worker k) l)
    work-turn k l =
        let phase : Phase = phase_at w.phases k in
        let ranges : List Range = ranges_by h l phase in
        let marks : List Mark = marks_for h.guest.regions ranges in
        let z : World V = after meaning w (party.Worker k) l in
        let are : z.shared.logs ≡ logs_after h ranges = logs-work h meaning w.wiring k phase l in
        record {
          more = [];
          harvests = sym (append-nil w.harvests);
          stays = λ m stands. inl (let P : List (Stored Plain) → Type 0 = λ l. bit_in l m ≡ 1 in subst P (sym are) (marks-stand marks h.logs m stands));
          marks = λ m dirty.
              let P : List (Stored Plain) → Type 0 = λ l. bit_in l m ≡ 1 in
              let is = met-marked h.guest.regions s.fit.apart s.fit.paged m ranges dirty.0 dirty.1 dirty.2 in
              (subst P (sym are) (marks-set marks h.logs m is (met-within h.guest.regions h.logs s.fit dirty.0.start dirty.0.len m dirty.2)), refl);
          only = λ m stands.
              let P : List (Stored Plain) → Type 0 = λ l. bit_in l m ≡ 1 in
              elim (marks-only marks h.logs m (subst P are stands)) [
                | inl is ↦ inr (marked-met h.guest.regions s.fit.apart s.fit.paged m ranges is, refl)
                | inr was ↦ inl (was, tt)
              ];
        }

    step-turn : (p : Party) (l : Play) → May w p l → Logs w p l (after meaning w p l)
    step-turn party.Guest play.Guest may = guest-turn w.guest
    step-turn party.Control (play.Control small said) may = quiet party.Control (play.Control small said) (after_control w small said) refl (small-logs w.wiring h small) (λ m dirty. dirty)
    step-turn (party.Worker k) l may = work-turn k l
    step-turn p l may = absurd may

    pub turn-logs : (p : Party) (z : World V) (l : Play) → Turn meaning w p l z → Logs w p l z
    turn-logs p z =
        turn-cases meaning w p z (λ l. Logs w p l z)
        (λ same. quiet p play.Pass z (ap (λ (x : World V). x.harvests) same) (ap (λ (x : World V). x.shared.logs) same) (pass-clean p))
        (λ l may is. subst (λ (x : World V). Logs w p l x) (sym is) (step-turn p l may))
