-- Where the run of a batch has ended, its spans make the memory of the dialog, of which the replies are collected.
use Rattle.std.proofs.Common.{◌≡◌, ◌≢◌, ℕ, zero, suc, ◌+◌, inl, inr, Bool, false, List, [], ◌∷◌, ◌++◌, length, map, get_or, Option, Some, None, Result, Ok, Err, IsOk, refl, sym, ap, ap₂, subst, ◌∙◌, arith}
use Rattle.std.proofs.lemmas.List.{append-nil}
use Rattle.vub_mem.specs.Memory.{Guest}
use Rattle.vub_mem.specs.Place.{content_of}
use Rattle.vub_model.specs.declared.party.Party.TheVariants as party
use Rattle.vub_model.specs.declared.play.Play.TheVariants as play
use Rattle.vub_model.specs.declared.records.Span.{Span}
use Rattle.vub_model.specs.declared.setup.Guest.{Guest as Action}
use Rattle.vub_model.specs.declared.setup.Guest.TheVariants.{Signal}
use Rattle.vub_model.specs.declared.setup.Object.TheVariants as object
use Rattle.vub_model.specs.RunOf.{IsAtRest}
use Rattle.vub_model.specs.RunRecords.{spans_from, spans_in}
use Rattle.vub_model.specs.Service.{Meaning}
use Rattle.vub_model.specs.Shared.{count_at}
use Rattle.vub_model.specs.World.{World, stored}
use Rattle.vub_driver.specs.Calls.{collect_answer}
use Rattle.vub_driver.specs.Machine.{Asked, World as Dialog}
use Rattle.vub_driver.specs.State.{State}
use Rattle.vub_driver.specs.declared.done.Done.{Done}
use Rattle.vub_driver.specs.declared.error.DriverError.{DriverError}
use Rattle.vub_driver.proofs.Collecting.{collects, keeps_collected, never_refused, next_in}
use Rattle.vub_driver.proofs.Flat.{IsFlat}
use Rattle.vub_driver.proofs.Kept.{Keeps}
use Rattle.vub_talk.specs.declared.ask.Ask.{Ask}
use Rattle.vub_talk.specs.Asking.{region}
use Rattle.vub_talk.specs.Replies.{asked_by, replies_to, value_after}
use Rattle.vub_talk.specs.Talking.{Collects, spans_stored, state_asked}
use Rattle.vub_talk.proofs.Gathering.{Goal, Stage}
use Rattle.vub_talk.proofs.Gathering.Stage.{between, requested, chained, slotted, ended}
use Rattle.vub_talk.proofs.Opened.{IsSame, keeps_same}
use Rattle.vub_talk.proofs.Playing.{GathersIn}
use Rattle.vub_talk.proofs.Spanned.{content_spanned, spans_over, spans_whole}
use Rattle.vub_talk.proofs.Untouched.{Untouched, acts_on, regions_stored}

-- The guest has stored all

not_empty : (xs : List Action) (x : Action) → xs ++ x ∷ [] ≡ [] → ⊥
not_empty [] x is = (let no : x ∷ [] ≡ [] = is in cc)
not_empty (y ∷ xs) x is = (let no : y ∷ (xs ++ x ∷ []) ≡ [] = is in cc)

none_first : (x : Action) (xs : List Action) → [] ≡ x ∷ xs → ⊥
none_first x xs is = cc

none_left : (d : Dialog) (rest : List Ask) → Stage d rest [] → rest ≡ []
none_left d rest (between is) = absurd (not_empty _ (Signal 1) (sym is))
none_left d rest (requested a more is left ahead) = absurd (none_first _ _ left)
none_left d rest (chained a more is left ahead) = absurd (none_first _ _ left)
none_left d rest (slotted a more is left ahead) = absurd (none_first _ _ left)
none_left d rest (ended is left) = is

guest_done : (actions : List Action) → (actions ≢ [] → ⊥) → actions ≡ []
guest_done [] rests = refl
guest_done (action ∷ actions) rests = absurd (rests (λ is. none_first action actions (sym is)))

pub guest_rests : {V : Type 0} (w : World V) → IsAtRest w → w.guest ≡ []
guest_rests w rests = guest_done w.guest (λ some. rests party.Guest play.Guest some)

-- Spans

no_bytes : (xs : List ℕ) → length xs ≡ 0 → xs ≡ []
no_bytes [] none = refl
no_bytes (x ∷ xs) none = absurd (omega arith)

spans_one : (flags : List (List Bool)) (g : Guest) (bytes : List ℕ) → content_of g.contents 1 ≡ [] → content_of g.contents 2 ≡ [] →
    spans_from flags g 0 (object.Content bytes ∷ object.Event 0 ∷ object.Event 0 ∷ []) ≡ spans_in flags 0 0 (content_of g.contents 0)
spans_one flags g bytes first second =
    ap₂ (λ xs ys. spans_in flags 0 0 (content_of g.contents 0) ++ (spans_in flags 1 0 xs ++ (spans_in flags 2 0 ys ++ []))) first second ∙ append-nil (spans_in flags 0 0 (content_of g.contents 0))

regions_spanned : (g : Guest) (spans : List Span) → (spans_stored g spans).regions ≡ g.regions
regions_spanned g [] = refl
regions_spanned g (s ∷ spans) = regions_spanned (stored g 0 s.offset s.bytes) spans ∙ regions_stored g 0 s.offset s.bytes

-- The dialog of the memory that the driver sees after the run: the driver has submitted all, and collected nothing more.
pub record Ends {V : Type 0} (m : Meaning V) (v : V) (asked : List Asked) (goal : Goal) (service : V) (g : Guest) (calls : ℕ) : Type 0 where
  pub dialog : Dialog
  pub keeps : Keeps region dialog
  pub off : dialog.ring.event_idx ≡ false
  pub driver : dialog.driver ≡ goal.state
  pub answered : dialog.answers ≡ goal.answers
  pub memory : dialog.guest ≡ g
  pub all : dialog.asked ≡ asked
  pub told : length dialog.replies ≡ goal.before + calls
  pub served : dialog.held ≡ None → (service ≡ value_after m v dialog.taken) × (dialog.replies ≡ replies_to m v dialog.taken)
  pub long : length (content_of g.contents 0) ≡ 1048576

pub ends : {V : Type 0} (m : Meaning V) (v : V) (all : List Asked) (goal : Goal) (z : World V) (end : List ℕ) (bytes : List ℕ) (g : Guest) (spans : List Span) →
    GathersIn m v all goal z → Untouched end z → z.guest ≡ [] → IsFlat region g → length (content_of g.contents 0) ≡ 1048576 → content_of g.contents 0 ≡ end →
    spans ≡ spans_from z.written z.shared.guest 0 (object.Content bytes ∷ object.Event 0 ∷ object.Event 0 ∷ []) → Ends m v all goal z.shared.service (spans_stored g spans) (count_at z.shared.table 2)
ends m v all goal z end bytes g spans gathered kept done flat large made is =
    let now = gathered.0 in
    let d : Dialog = now.dialog in
    let none : now.rest ≡ [] = none_left d now.rest (subst (Stage d now.rest) done now.stage) in
    let last : List ℕ = content_of z.shared.guest.contents 0 in
    let only : spans ≡ spans_in z.written 0 0 last =
    is ∙ spans_one z.written z.shared.guest bytes (no_bytes (content_of z.shared.guest.contents 1) (kept.none 1 (λ no. absurd (omega arith)))) (no_bytes (content_of z.shared.guest.contents 2) (kept.none 2 (λ no. absurd (omega arith)))) in
    let size : length (content_of g.contents 0) ≡ length last = large ∙ sym kept.long in
    let whole : content_of (spans_stored g spans).contents 0 ≡ last =
    content_spanned g spans (omega (arith, size, kept.long)) ∙ ap (λ ss. spans_over (content_of g.contents 0) ss) only
    ∙ spans_whole z.written (content_of g.contents 0) last size
    (λ i below unwritten. ap (λ xs. get_or xs i 0) made ∙ sym (kept.same i (omega (arith, kept.long)) unwritten) ∙ ap (λ list. get_or (acts_on last list) i 0) done) in
    let same : IsSame d.guest (spans_stored g spans) = record { one = now.keeps.reads.flat.one; other = regions_spanned g spans ∙ flat.one; content = whole ∙ ap (λ (x : Guest). content_of x.contents 0) now.guest } in
    record {
      dialog = record d { guest = spans_stored g spans };
      keeps = keeps_same d (spans_stored g spans) now.keeps now.off same;
      off = now.off;
      driver = ap (state_asked d.driver) (sym none) ∙ now.state;
      answered = now.answered;
      memory = refl;
      all = sym (append-nil d.asked) ∙ ap (λ xs. d.asked ++ map (λ a. asked_by a) xs) (sym none) ∙ now.asked;
      told = now.tells.count;
      served = now.served;
      long = ap length whole ∙ kept.long;
    }

-- The replies are collected

some_is : (d e : Done) → ◌≡◌ {A = Result (Option Done) DriverError} (Ok (Some d)) (Ok (Some e)) → d ≡ e
some_is d e is = cc

none_some : (d : Done) → ◌≡◌ {A = Result (Option Done) DriverError} (Ok None) (Ok (Some d)) → ⊥
none_some d is = cc

ok_err : (a : Result (Option Done) DriverError) (e : DriverError) → IsOk a → a ≡ Err e → ⊥
ok_err (Ok x) e ok is = cc
ok_err (Err x) e ok is = cc

-- each collect gives the next reply of the dialog
pub collected_on : (n : ℕ) (d : Dialog) → Keeps region d → (t : State) (new : List Done) → Collects n d.driver d.guest d.answers t new →
    Keeps region (record d { driver = t; answers = new }) × (t ≡ record d.driver { collected = d.driver.collected + n })
collected_on zero d k t new so =
    let none : d.driver.collected ≡ d.driver.collected + zero = omega arith in
    let here : d.driver ≡ record d.driver { collected = d.driver.collected + zero } = ap (λ c. record d.driver { collected = c }) none in
    (subst (λ x. Keeps region (record d { driver = x; answers = new })) (sym so.0) (subst (λ x. Keeps region (record d { answers = x })) (sym so.1) k), so.0 ∙ here)
collected_on (suc n) d k t new so =
    let u : State = so.0 in
    let before : List Done = so.1 in
    let x : Done = so.2 in
    let first = collected_on n d k u before so.3 in
    let e : Dialog = record d { driver = u; answers = before } in
    let more : u.collected + 1 ≡ d.driver.collected + suc n = (let count = ap (λ (s : State). s.collected) first.1 in omega arith) in
    let here : record u { collected = u.collected + 1 } ≡ record d.driver { collected = u.collected + 1 } = ap (λ (s : State). record s { collected = u.collected + 1 }) first.1 in
    let there : record d.driver { collected = u.collected + 1 } ≡ record d.driver { collected = d.driver.collected + suc n } = ap (λ c. record d.driver { collected = c }) more in
    elim (collects region e first.0) [
      | inl nothing ↦ absurd (none_some x (sym nothing.0 ∙ so.4))
      | inr found ↦
          let same : next_in e ≡ x = some_is (next_in e) x (sym found.0 ∙ so.4) in
          let keeps = keeps_collected region e first.0 found.1 in (
            subst (λ s. Keeps region (record d { driver = s; answers = new })) (sym so.5)
                (subst (λ xs. Keeps region (record d { driver = record u { collected = u.collected + 1 }; answers = xs })) (sym so.6)
                (subst (λ y. Keeps region (record d { driver = record u { collected = u.collected + 1 }; answers = before ++ y ∷ [] })) same keeps)),
            so.5 ∙ here ∙ there,
          )
    ]

-- and is never refused
pub trusted : (s : State) (g : Guest) (e : DriverError) → (d : Dialog) → Keeps region d → d.driver ≡ s → d.guest ≡ g → collect_answer s g ≡ Err e → ⊥
trusted s g e d k driver memory is = ok_err (collect_answer d.driver d.guest) e (never_refused region d k) (ap₂ collect_answer driver memory ∙ is)
