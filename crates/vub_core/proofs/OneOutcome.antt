-- A valid set-up and a schedule have one outcome: two runs that are handed back are the same in each field.
use Rattle.std.proofs.Common.{◌≡◌, ◌↔◌, ℕ, Bool, true, false, IsTrue, List, map, Some, refl, sym, ap, subst, ◌∙◌}
use Rattle.vub_model.specs.declared.constants.Constants.{Constants}
use Rattle.vub_model.specs.declared.label.Label.{Label}
use Rattle.vub_model.specs.declared.run.Run.{Run}
use Rattle.vub_model.specs.declared.setup.Object.{Object}
use Rattle.vub_model.specs.declared.setup.Setup.{Setup}
use Rattle.vub_model.specs.declared.play.Play.{Play}
use Rattle.vub_model.specs.DeviceCalls.{Call, Telling, label_of, calls}
use Rattle.vub_model.specs.Opening.{opening}
use Rattle.vub_model.specs.RunOf.{IsAtRest}
use Rattle.vub_model.specs.RunRecords.{Shows}
use Rattle.vub_model.specs.Service.{Meaning}
use Rattle.vub_model.specs.World.{World}
use Rattle.vub_model.proofs.OneRun.{one-run}
use Rattle.vub_core.specs.DeviceRun.{DeviceState}
use Rattle.vub_core.specs.Outcome.{IsPlayed}
use Rattle.vub_core.proofs.Made.{tells-from}

-- two answers are the same that are true exactly where the same holds
one-answer : (P : Type 0) (answer other : Bool) → IsTrue answer ↔ P → IsTrue other ↔ P → answer ≡ other
one-answer P true true is other-is = refl
one-answer P true false is other-is = sym (other-is.1 (is.0 refl))
one-answer P false true is other-is = is.1 (other-is.0 refl)
one-answer P false false is other-is = refl

-- two runs are the same whose fields are the same
same-fields : (run other : Run) → run.labels ≡ other.labels → run.answers ≡ other.answers → run.device ≡ other.device → run.takes ≡ other.takes → run.uses ≡ other.uses → run.stops ≡ other.stops → run.counts ≡ other.counts → run.written ≡ other.written → run.logs ≡ other.logs → run.harvests ≡ other.harvests → run.rest ≡ other.rest → run ≡ other
same-fields run other labels answers device takes uses stops counts written logs harvests rest =
    ap (λ x. record run { labels = x }) labels
    ∙ ap (λ x. record run { labels = other.labels; answers = x }) answers
    ∙ ap (λ x. record run { labels = other.labels; answers = other.answers; device = x }) device
    ∙ ap (λ x. record other { takes = x; uses = run.uses; stops = run.stops; counts = run.counts; written = run.written; logs = run.logs; harvests = run.harvests; rest = run.rest }) takes
    ∙ ap (λ x. record other { uses = x; stops = run.stops; counts = run.counts; written = run.written; logs = run.logs; harvests = run.harvests; rest = run.rest }) uses
    ∙ ap (λ x. record other { stops = x; counts = run.counts; written = run.written; logs = run.logs; harvests = run.harvests; rest = run.rest }) stops
    ∙ ap (λ x. record other { counts = x; written = run.written; logs = run.logs; harvests = run.harvests; rest = run.rest }) counts
    ∙ ap (λ x. record other { written = x; logs = run.logs; harvests = run.harvests; rest = run.rest }) written
    ∙ ap (λ x. record other { logs = x; harvests = run.harvests; rest = run.rest }) logs
    ∙ ap (λ x. record other { harvests = x; rest = run.rest }) harvests
    ∙ ap (λ x. record other { rest = x }) rest

-- what a run hands back is a function of its labels and of the world in which it ends
one-shown : {V : Type 0} (objects : List Object) (labels : List Label) (made : List Call) (closing : World V) (run other : Run) → Shows objects labels made closing run → Shows objects labels made closing other → run ≡ other
one-shown objects labels made closing run other shows other-shows =
    same-fields run other
    (shows.labels_are ∙ sym other-shows.labels_are)
    (shows.answers_are ∙ sym other-shows.answers_are)
    (shows.device_is ∙ sym other-shows.device_is)
    (shows.takes_are ∙ sym other-shows.takes_are)
    (shows.uses_are ∙ sym other-shows.uses_are)
    (shows.stops_are ∙ sym other-shows.stops_are)
    (shows.counts_are ∙ sym other-shows.counts_are)
    (shows.written_is ∙ sym other-shows.written_is)
    (shows.logs_are ∙ sym other-shows.logs_are)
    (shows.harvests_are ∙ sym other-shows.harvests_are)
    (one-answer (IsAtRest closing) run.rest other.rest shows.rests other-shows.rests)

-- a schedule has one run over a device that tells its value
pub one-outcome : {V D : Type 0} (m : Meaning V) (t : Telling D) (d : D) (k : Constants) (setup : Setup) (schedule : List ℕ) (v end other-end : V) (before now other-now : DeviceState D) (run other : Run) → before.value ≡ Some d → IsPlayed m t k setup schedule v end before now run → IsPlayed m t k setup schedule v other-end before other-now other → run ≡ other
one-outcome {V} m t d k setup schedule v end other-end before now other-now run other told played other-played =
    let w = opening k setup v in
    let said = tells-from t before.value now.value d (calls m schedule played.plays w) told played.made.told in
    let other-said = tells-from t before.value other-now.value d (calls m schedule other-played.plays w) told other-played.made.told in
    let same = one-run t d m schedule played.plays other-played.plays w played.closing other-played.closing played.is_run played.least said other-played.is_run other-played.least other-said in
    let L : List Play → Type 0 = λ ps. Shows setup.objects (map label_of ps) (calls m schedule ps w) other-played.closing other in
    let C : World V → Type 0 = λ z. Shows setup.objects (map label_of played.plays) (calls m schedule played.plays w) z other in
    one-shown setup.objects (map label_of played.plays) (calls m schedule played.plays w) played.closing run other played.shows (subst C (sym same.1) (subst L (sym same.0) other-played.shows))
