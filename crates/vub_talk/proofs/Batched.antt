-- A batch takes a conversation on: its answers are the service's replies to its asks.
use Rattle.std.proofs.Common.{◌≡◌, ℕ, suc, ◌+◌, ◌^◌, ◌<◌, ◌≤◌, Bool, true, false, cond, nat_lt, slice_index_or, List, [], ◌∷◌, ◌++◌, length, map, take, Option, Some, None, refl, sym, ap, ap₂, subst, ◌∙◌, arith}
use Rattle.std.proofs.lemmas.List.{take_all, length-append}
use Rattle.vub_mem.specs.Memory.{Guest}
use Rattle.vub_mem.specs.Place.{content_of}
use Rattle.vub_queue.specs.declared.chain.Chain.{Chain}
use Rattle.vub_model.specs.declared.constants.Constants.{Constants}
use Rattle.vub_model.specs.declared.records.Span.{Span}
use Rattle.vub_model.specs.declared.run.Run.{Run}
use Rattle.vub_model.specs.declared.setup.Guest.TheVariants.{Signal}
use Rattle.vub_model.specs.declared.setup.Object.TheVariants as object
use Rattle.vub_model.specs.Service.{Meaning}
use Rattle.vub_driver.specs.Calls.{state_submitted}
use Rattle.vub_driver.specs.Law.{numbered}
use Rattle.vub_driver.specs.Machine.{Asked, World as Dialog}
use Rattle.vub_driver.specs.Places.{half_of}
use Rattle.vub_driver.specs.State.{State}
use Rattle.vub_driver.specs.declared.done.Done.{Done}
use Rattle.vub_driver.proofs.Kept.{Keeps, taken_by, taken_low, length-numbered}
use Rattle.vub_talk.specs.declared.ask.Ask.{Ask}
use Rattle.vub_talk.specs.Asking.{AreSmall, MaySubmit, region}
use Rattle.vub_talk.specs.Replies.{asked_by, replies_to, value_after}
use Rattle.vub_talk.specs.Talking.{Collects, guest_asked, spans_stored, state_asked}
use Rattle.vub_talk.proofs.Gathering.{Goal}
use Rattle.vub_talk.proofs.Untouched.{acts_on}
use Rattle.vub_model.specs.Opening.{opening}
use Rattle.vub_talk.specs.Batches.{asks_stored, batch_setup}
use Rattle.vub_talk.specs.Machine.{constants_in, fixed, setup_for}
use Rattle.vub_model.specs.declared.setup.Setup.{Setup}
use Rattle.vub_proto.specs.declared.fixed.FixedDevice.{FixedDevice}
use Rattle.vub_driver.specs.declared.layout.Layout.{Layout}
use Rattle.vub_core.specs.DeviceRun.{DeviceState}
use Rattle.vub_core.specs.Outcome.{IsPlayed}
use Rattle.vub_model.specs.DeviceCalls.{Telling}
use Rattle.vub_talk.specs.Talking.{HasRun, calls_of, Collects, guest_asked, spans_stored, state_asked}
use Rattle.std.proofs.lemmas.Bool.{ltb-false}
use Rattle.vub_event.specs.HostTable.{HostTable}
use Rattle.vub_model.specs.declared.records.Count.{Count}
use Rattle.vub_model.specs.Shared.{count_at}
use Rattle.vub_model.specs.RunRecords.{counts_from}
use Rattle.vub_talk.specs.Talks.{Talks, IsTrusted}
use Rattle.vub_talk.proofs.Beginning.{IsBetween, begins, untouched}
use Rattle.vub_talk.proofs.Ending.{Ends, ends, guest_rests, collected_on}
use Rattle.vub_talk.proofs.Opened.{asks_made, asks_flat}
use Rattle.vub_talk.proofs.Playing.{run_gathers}
use Rattle.vub_talk.proofs.Untouched.{length-acts_on, run_untouched, acts_on}

-- the count of the call, as a run hands it back
calls_by : (first second : ℕ) (a b : Bool) → nat_lt 0 second ≡ b →
    calls_of (cond {A = List Count} a (record { object = 1; count = first } ∷ []) [] ++ (cond {A = List Count} b (record { object = 2; count = second } ∷ []) [] ++ [])) ≡ second
calls_by first second true true is = refl
calls_by first second false true is = refl
calls_by first second true false is = (let none : second ≤ 0 = ltb-false 0 second is in omega arith)
calls_by first second false false is = (let none : second ≤ 0 = ltb-false 0 second is in omega arith)

calls_counted : (table : HostTable) (bytes : List ℕ) → calls_of (counts_from table 0 (object.Content bytes ∷ object.Event 0 ∷ object.Event 0 ∷ [])) ≡ count_at table 2
calls_counted table bytes = calls_by (count_at table 1) (count_at table 2) (nat_lt 0 (count_at table 1)) (nat_lt 0 (count_at table 2)) refl

module _ {V : Type 0} (m : Meaning V) (v : V) where
  -- the run of a batch ends in a dialog
  dialog_ends : (d : Dialog) (k : Keeps region d) (service end : V) (b : IsBetween m v d service) (c : Constants) (some : 0 < c.queues) (exits : (w : ℕ) → slice_index_or c.exits w None ≡ None) (asks : List Ask)
      (room : d.driver.submitted + length asks ≤ d.driver.collected + half_of d.driver.layout) (counted : d.driver.submitted + length asks < 2 ^ 64) (small : AreSmall d.driver.layout asks) (run : Run) →
      HasRun m c (setup_for d.driver d.guest asks) service end run →
      Ends m v (d.asked ++ map (λ a. asked_by a) asks) (record { state = state_asked d.driver asks; answers = d.answers; before = d.driver.submitted }) end (spans_stored (guest_asked d.driver.layout d.guest d.driver.submitted asks) run.written) (calls_of run.counts)
  unfolding batch_setup
  dialog_ends d k service end b c some exits asks room counted small run has =
      let all : List Asked = d.asked ++ map (λ a. asked_by a) asks in
      let goal : Goal = record { state = state_asked d.driver asks; answers = d.answers; before = d.driver.submitted } in
      let content : List ℕ = content_of d.guest.contents 0 in
      let after : List ℕ = acts_on content (asks_stored d.driver.layout d.driver.submitted asks ++ Signal 1 ∷ []) in
      let made : content_of (guest_asked d.driver.layout d.guest d.driver.submitted asks).contents 0 ≡ acts_on content (asks_stored d.driver.layout d.driver.submitted asks ++ Signal 1 ∷ []) =
      asks_made d.driver.layout d.guest d.driver.submitted asks k.apart k.lies small k.reads.flat in
      let gathered = run_gathers m v all goal has.schedule has.plays (opening c (setup_for d.driver d.guest asks) service) has.closing has.is_run has.fits (begins m v d k service b c some exits asks room counted small) in
      let kept = run_untouched m after has.schedule has.plays (opening c (setup_for d.driver d.guest asks) service) has.closing has.is_run (untouched m v d k service b c some exits asks room counted small) in
      let E : V → ℕ → Type 0 = λ x i. Ends m v (d.asked ++ map (λ a. asked_by a) asks) (record { state = state_asked d.driver asks; answers = d.answers; before = d.driver.submitted }) x (spans_stored (guest_asked d.driver.layout d.guest d.driver.submitted asks) run.written) i in
      let counted_is : calls_of run.counts ≡ count_at has.closing.shared.table 2 = ap calls_of has.counts ∙ calls_counted has.closing.shared.table content in
      subst (λ i. E end i) (sym counted_is) (subst (λ x. E x (count_at has.closing.shared.table 2)) (sym has.value)
      (ends m v all goal has.closing after content (guest_asked d.driver.layout d.guest d.driver.submitted asks) run.written gathered kept (guest_rests has.closing has.rests)
      (asks_flat d.driver.layout d.guest d.driver.submitted asks k.apart k.lies small k.reads.flat)
      (ap length made ∙ length-acts_on content (asks_stored d.driver.layout d.driver.submitted asks ++ Signal 1 ∷ []) ∙ b.long) made has.written))

  pub batch_ends : (asked : List Asked) (s : State) (g : Guest) (answers : List Done) (service end : V) (c : Constants) (asks : List Ask) (run : Run) →
      Talks m v asked s g answers service → 0 < c.queues → ((w : ℕ) → slice_index_or c.exits w None ≡ None) → s.submitted + length asks ≤ s.collected + half_of s.layout → s.submitted + length asks < 2 ^ 64 → AreSmall s.layout asks →
      HasRun m c (setup_for s g asks) service end run →
      Ends m v (asked ++ map (λ a. asked_by a) asks) (record { state = state_asked s asks; answers = answers; before = s.submitted }) end (spans_stored (guest_asked s.layout g s.submitted asks) run.written) (calls_of run.counts)
  batch_ends asked s g answers service end c asks run talks some exits room counted small has =
      let d : Dialog = talks.dialog in
      let b : IsBetween m v d service = record {
        off = talks.off;
        held = talks.held;
        taken = ap length talks.taken ∙ sym talks.submits ∙ ap (λ (x : State). x.submitted) (sym talks.driver);
        put = omega (arith, talks.keeps.held, ap (λ h. taken_by h (length d.replies)) talks.held, ap length talks.taken, talks.submits, ap (λ (x : State). x.submitted) talks.driver);
        value = talks.value ∙ ap (value_after m v) (sym talks.taken);
        replies = talks.put ∙ ap (replies_to m v) (sym talks.taken);
        long = ap (λ (x : Guest). length (content_of x.contents 0)) talks.memory ∙ talks.long;
      } in
      let P : State → Guest → Type 0 = λ x y. x.submitted + length asks ≤ x.collected + half_of x.layout → x.submitted + length asks < 2 ^ 64 → AreSmall x.layout asks → HasRun m c (setup_for x y asks) service end run →
      Ends m v (d.asked ++ map (λ a. asked_by a) asks) (record { state = state_asked x asks; answers = d.answers; before = x.submitted }) end (spans_stored (guest_asked x.layout y x.submitted asks) run.written) (calls_of run.counts) in
      let first : P d.driver d.guest = λ r k l h. dialog_ends d talks.keeps service end b c some exits asks r k l run h in
      let moved : P s g = subst (λ y. P s y) talks.memory (subst (λ x. P x d.guest) talks.driver first) in
      let E : List Asked → List Done → Type 0 = λ q ds. Ends m v (q ++ map (λ a. asked_by a) asks) (record { state = state_asked s asks; answers = ds; before = s.submitted }) end (spans_stored (guest_asked s.layout g s.submitted asks) run.written) (calls_of run.counts) in
      subst (λ ds. E asked ds) talks.collected (subst (λ q. E q d.answers) talks.all (moved room counted small has))

  -- The replies collected
  none_held : (x : Option Chain) (p : ℕ) → taken_by x p ≡ p → x ≡ None
  none_held None p is = refl
  none_held (Some c) p is = absurd (omega arith)

  on_dialog : (asked : List Asked) (goal : Goal) (end : V) (g : Guest) (calls : ℕ) (e : Ends m v asked goal end g calls) (i : ℕ) (t : State) (new : List Done) → Collects i goal.state g goal.answers t new → Collects i e.dialog.driver e.dialog.guest e.dialog.answers t new
  on_dialog asked goal end g calls e i t new so =
      subst (λ x. Collects i x e.dialog.guest e.dialog.answers t new) (sym e.driver)
      (subst (λ x. Collects i goal.state x e.dialog.answers t new) (sym e.memory) (subst (λ x. Collects i goal.state g x t new) (sym e.answered) so))

  pub trusts : (asked : List Asked) (goal : Goal) (end : V) (g : Guest) (calls : ℕ) → Ends m v asked goal end g calls → IsTrusted goal.state g
  trusts asked goal end g calls e = (e.dialog, e.keeps, e.driver, e.memory)

  pub batch_talks : (asked : List Asked) (goal : Goal) (end : V) (g : Guest) (calls : ℕ) (i : ℕ) (t : State) (new : List Done) → Ends m v asked goal end g calls → goal.state.submitted ≡ length asked → goal.state.collected + i ≡ length asked →
      Collects i goal.state g goal.answers t new → Talks m v asked t g new end × (goal.before + calls ≡ length asked)
  batch_talks asked goal end g calls i t new e submits got_all so =
      let d : Dialog = e.dialog in
      let on = collected_on i d e.keeps t new (on_dialog asked goal end g calls e i t new so) in
      let k = on.0 in
      let sent : t.submitted ≡ length asked = ap (λ (x : State). x.submitted) on.1 ∙ ap (λ (x : State). x.submitted) e.driver ∙ submits in
      let got : t.collected ≡ length asked = ap (λ (x : State). x.collected) on.1 ∙ ap (λ (x : State). x.collected + i) e.driver ∙ got_all in
      let low : length d.replies ≤ taken_by d.held (length d.replies) = taken_low d.held (length d.replies) in
      let put : length d.replies ≡ length asked = omega (arith, k.put, k.held, k.behind, sent, got, low) in
      let count : length d.taken ≡ length asked = omega (arith, k.put, k.held, k.behind, sent, got, low) in
      let held : d.held ≡ None = none_held d.held (length d.replies) (sym k.held ∙ count ∙ sym put) in
      let taken : d.taken ≡ asked = k.taken ∙ ap₂ (λ n xs. take n xs) count e.all ∙ take_all (length asked) asked (omega arith) in
      let served = e.served held in
      let replies : d.replies ≡ replies_to m v asked = served.1 ∙ ap (replies_to m v) taken in (
        record {
          dialog = record d { driver = t; answers = new };
          keeps = k;
          driver = refl;
          memory = e.memory;
          off = e.off;
          held = held;
          all = e.all;
          taken = taken;
          put = replies;
          collected = refl;
          whole = k.first ∙ ap₂ (λ n rs. take n (numbered 0 rs)) (got ∙ sym put) replies
              ∙ take_all (length d.replies) (numbered 0 (replies_to m v asked)) (let long = length-numbered 0 (replies_to m v asked) in let same = ap length replies in omega arith);
          value = served.0 ∙ ap (value_after m v) taken;
          submits = sent;
          collects = got;
          long = e.long;
        },
        sym e.told ∙ put,
      )

  -- the same, as the steps of a batch tell it
  pub batch_stands : (asked : List Asked) (s : State) (g : Guest) (answers : List Done) (service end : V) (k : Constants) (asks : List Ask) (run : Run) (l : Layout) (setup : Setup) (device : FixedDevice) (made final : Guest) (spans : List Span) →
      l ≡ s.layout → MaySubmit s g.regions (length asks) → AreSmall l asks → 0 < k.queues → ((w : ℕ) → slice_index_or (constants_in (fixed k)).exits w None ≡ None) → device ≡ fixed k →
      setup ≡ batch_setup l s.submitted (content_of g.contents 0) (asks_stored l s.submitted asks ++ Signal 1 ∷ []) → HasRun m (constants_in device) setup service end run →
      made ≡ guest_asked l g s.submitted asks → spans ≡ run.written → final ≡ spans_stored made spans → Talks m v asked s g answers service →
      Ends m v (asked ++ map (λ a. asked_by a) asks) (record { state = state_asked s asks; answers = answers; before = s.submitted }) end final (calls_of run.counts)
  batch_stands asked s g answers service end k asks run l setup device made final spans layout may small some exits device_is setup_is has made_is spans_are final_is talks =
      let Run : Constants → Setup → Type 0 = λ c x. HasRun m c x service end run in
      let same : setup ≡ setup_for s g asks = setup_is ∙ ap (λ x. batch_setup x s.submitted (content_of g.contents 0) (asks_stored x s.submitted asks ++ Signal 1 ∷ [])) layout in
      let ran : HasRun m (constants_in (fixed k)) (setup_for s g asks) service end run = subst (λ x. HasRun m (constants_in (fixed k)) x service end run) same (subst (λ (x : FixedDevice). HasRun m (constants_in x) setup service end run) device_is has) in
      let memory : final ≡ spans_stored (guest_asked s.layout g s.submitted asks) run.written =
      final_is ∙ ap₂ spans_stored (made_is ∙ ap (λ x. guest_asked x g s.submitted asks) layout) spans_are in
      subst (λ x. Ends m v (asked ++ map (λ a. asked_by a) asks) (record { state = state_asked s asks; answers = answers; before = s.submitted }) end x (calls_of run.counts)) (sym memory)
      (batch_ends asked s g answers service end (constants_in (fixed k)) asks run talks some exits may.free may.counted (subst (λ x. AreSmall x asks) layout small) ran)

  state_counts : (s : State) (asks : List Ask) → ((state_asked s asks).submitted ≡ s.submitted + length asks) × ((state_asked s asks).collected ≡ s.collected)
  state_counts s [] = (omega arith, refl)
  state_counts s (a ∷ asks) = (let rest = state_counts (state_submitted s a.room) asks in (omega (arith, rest.0), rest.1))

  length_asked : (asks : List Ask) → length (map (λ a. asked_by a) asks) ≡ length asks
  length_asked [] = refl
  length_asked (a ∷ asks) = ap suc (length_asked asks)

  pub batch_answers : (asked : List Asked) (s mid : State) (g final : Guest) (answers : List Done) (service end : V) (asks : List Ask) (calls : ℕ) (t : State) (new : List Done) →
      Talks m v asked s g answers service → Ends m v (asked ++ map (λ a. asked_by a) asks) (record { state = state_asked s asks; answers = answers; before = s.submitted }) end final calls →
      mid ≡ state_asked s asks → Collects (length asks) mid final answers t new → Talks m v (asked ++ map (λ a. asked_by a) asks) t final new end × (calls ≡ length asks)
  batch_answers asked s mid g final answers service end asks calls t new talks e mid_is so =
      let counts = state_counts s asks in
      let long : length (asked ++ map (λ a. asked_by a) asks) ≡ length asked + length asks = length-append asked (map (λ a. asked_by a) asks) ∙ ap (λ n. length asked + n) (length_asked asks) in
      let both = batch_talks (asked ++ map (λ a. asked_by a) asks) (record { state = state_asked s asks; answers = answers; before = s.submitted }) end final calls (length asks) t new e
      (omega (arith, counts.0, talks.submits, long)) (omega (arith, counts.1, talks.collects, long)) (subst (λ x. Collects (length asks) x final answers t new) mid_is so) in
      (both.0, omega (arith, both.1, talks.submits, long))

-- a run to its rest
pub has_run : {V D : Type 0} {m : Meaning V} {t : Telling D} {constants : Constants} {setup : Setup} {schedule : List ℕ} {v end : V} {before now : DeviceState D} {run : Run} →
    IsPlayed m t constants setup schedule v end before now run → run.rest ≡ true → HasRun m constants setup v end run
has_run {schedule = schedule} played rest = record {
  schedule = schedule;
  plays = played.plays;
  closing = played.closing;
  is_run = played.is_run;
  fits = played.fits.calls;
  value = played.value;
  written = played.shows.written_is;
  counts = played.shows.counts_are;
  rests = played.shows.rests.0 rest;
}
