-- What a schedule came to, from what playing it came to.
use Rattle.std.proofs.Common.{◌≡◌, ℕ, ◌<◌, ◌&&◌, Option, Some, None, fold, List, [], ◌∷◌, length, map, take, refl, sym, ap, subst, ◌∙◌, arith}
use Rattle.std.proofs.lemmas.Bool.{cond_both}
use Rattle.std.proofs.lemmas.List.{take_all, length-map}
use Rattle.vub_model.specs.declared.constants.Constants.{Constants}
use Rattle.vub_model.specs.declared.label.Label.{Label}
use Rattle.vub_model.specs.declared.play.Play.{Play}
use Rattle.vub_model.specs.declared.run.DriveFault.{DriveFault}
use Rattle.vub_model.specs.declared.run.DriveFault.TheVariants as drive_fault
use Rattle.vub_model.specs.declared.run.Run.{Run}
use Rattle.vub_model.specs.declared.setup.Setup.{Setup}
use Rattle.vub_model.specs.RingRecord.{limit}
use Rattle.vub_model.specs.declared.setup.GivenRing.{GivenRing}
use Rattle.vub_model.specs.declared.wiring.Place.{Place}
use Rattle.vub_model.specs.Shared.{Shared}
use Rattle.vub_model.specs.Wiring.{Wiring, place_of}
use Rattle.vub_model.specs.Opening.{opening, before_rings, wiring_of, registered, registered_kick, placed, claimed}
use Rattle.vub_model.specs.declared.records.DeviceCall.{DeviceCall}
use Rattle.vub_model.specs.DeviceCalls.{Call, Telling, label_of, calls, device_call}
use Rattle.vub_model.specs.RunOf.{IsRun, PollsLeast}
use Rattle.vub_model.specs.RunRecords.{Shows}
use Rattle.vub_model.specs.Service.{Meaning}
use Rattle.vub_model.specs.ValidSetup.{IsValid, fault_of}
use Rattle.vub_model.specs.World.{World}
use Rattle.vub_model.proofs.Headline.{headline-of-setup}
use Rattle.vub_laws.proofs.Orderly.{laws-of-setup}
use Rattle.vub_core.specs.DeviceRun.{DeviceState, HasMade}
use Rattle.vub_core.specs.Outcome.{IsPlayed, IsCutShort, IsRefused}
use Rattle.vub_core.specs.Played.{HasPlayed, WasCutShort}
use Rattle.vub_core.specs.Replies.{CallsFit}
use Rattle.vub_core.proofs.Made.{made-same}
use Rattle.vub_core.proofs.Replies.{replies-fit}
use Rattle.vub_open.specs.Refused.{IsRefusal}

-- the opening has the service that it is given

placed-service : {V : Type 0} (g : Wiring) (h : Shared V) (kick : ℕ) (place : Option Place) → (placed g h kick place).service ≡ h.service
placed-service g h kick None = refl
placed-service g h kick (Some p) = refl

kick-service : {V : Type 0} (g : Wiring) (h : Shared V) (r : GivenRing) (kick : Option ℕ) → (registered_kick g h r kick).service ≡ h.service
kick-service g h r None = refl
kick-service {V} g h r (Some kick) =
    cond_both {A = Shared V} (r.ready && r.enabled) (placed g (claimed h kick r.queue) kick (place_of g r.queue)) (claimed h kick r.queue) (λ x. x.service ≡ h.service) (λ on. placed-service g (claimed h kick r.queue) kick (place_of g r.queue)) (λ off. refl)

rings-service : {V : Type 0} (g : Wiring) (rings : List GivenRing) (h : Shared V) → (fold (λ h r. registered g h r) h rings).service ≡ h.service
rings-service g [] h = refl
rings-service g (r ∷ rings) h = rings-service g rings (registered g h r) ∙ kick-service g h r r.kick

pub opening-service : {V : Type 0} (k : Constants) (setup : Setup) (v : V) → (opening k setup v).shared.service ≡ v
unfolding opening
opening-service k setup v = rings-service (wiring_of k (length setup.objects)) setup.rings (before_rings k setup v)

run-length : {V : Type 0} (m : Meaning V) (turns : List ℕ) (plays : List Play) (w z : World V) → IsRun m turns plays w z → length plays ≡ length turns
run-length m [] [] w z run = refl
run-length m [] (l ∷ plays) w z run = absurd run
run-length m (turn ∷ turns) [] w z run = absurd run
run-length m (turn ∷ turns) (l ∷ plays) w z run = (let rest = run-length m turns plays run.0 z run.2 in omega arith)

module _ {V D : Type 0} (m : Meaning V) (t : Telling D) (k : Constants) (setup : Setup) (v : V) (schedule : List ℕ) (d e : DeviceState D) where
  -- the headline
  pub all-played : (labels : List Label) (recorded : List DeviceCall) (closing : World V) (end : V) (run : Run) → IsValid k setup → length schedule < limit → HasPlayed m t schedule labels recorded (opening k setup v) closing d e → end ≡ closing.shared.service
      → ((made : List Call) → recorded ≡ map device_call made → Shows setup.objects labels made closing run) → IsPlayed m t k setup schedule v end d e run
  all-played labels recorded closing end run valid short so value shows =
      let made = calls m schedule so.plays (opening k setup v) in
      let S : List Label → Type 0 = λ ls. Shows setup.objects ls made closing run in
      let shown = shows made so.recorded_are in
      let faithful = headline-of-setup m k setup v schedule so.plays closing short valid so.is_run in
      record {
        valid = valid;
        plays = so.plays;
        closing = closing;
        is_run = so.is_run;
        least = so.least;
        shows = subst S so.labels_are shown;
        value = value;
        made = so.made;
        faithful = faithful;
        orderly = laws-of-setup m k setup v schedule so.plays closing short valid so.is_run;
        fits = replies-fit m schedule so.plays (opening k setup v) closing run faithful.served shown.takes_are shown.uses_are so.fits;
      }

  -- want of memory before the first turn
  pub none-played : (end : V) → end ≡ v → (opening k setup v).shared.service ≡ v → e ≡ d → IsCutShort m t k setup schedule v end d e 0
  none-played end same opened device = record {
    valid = λ some. absurd (omega (arith, some));
    plays = [];
    closing = opening k setup v;
    within = omega arith;
    is_run = refl;
    least = tt;
    value = same ∙ sym opened;
    made = made-same t d e device;
    fits = tt;
  }

  -- want of memory at a turn
  pub some-played : (labels : List Label) (end : V) (done : ℕ) → IsValid k setup → done ≡ length labels → WasCutShort m t schedule labels (opening k setup v) end d e → IsCutShort m t k setup schedule v end d e done
  some-played labels end done valid is so =
      let P : ℕ → Type 0 = λ n. IsCutShort m t k setup schedule v end d e n in
      subst P (sym is) (record {
        valid = λ some. valid;
        plays = so.front.plays;
        closing = so.closing;
        within = so.within;
        is_run = so.front.is_run;
        least = so.front.least;
        value = so.value;
        made = so.front.made;
        fits = so.front.fits;
      })

  -- want of memory behind the last turn
  pub end-played : (labels : List Label) (recorded : List DeviceCall) (closing : World V) (end : V) (done : ℕ) → IsValid k setup → done ≡ length labels → HasPlayed m t schedule labels recorded (opening k setup v) closing d e → end ≡ closing.shared.service → IsCutShort m t k setup schedule v end d e done
  end-played labels recorded closing end done valid is so value =
      let long = run-length m schedule so.plays (opening k setup v) closing so.is_run in
      let count : length labels ≡ length so.plays = ap (λ ls. length ls) so.labels_are ∙ length-map so.plays (λ p. label_of p) in
      let whole : take done schedule ≡ schedule = take_all done schedule (omega arith) in
      let R : List ℕ → Type 0 = λ ts. IsRun m ts so.plays (opening k setup v) closing in
      let L : List ℕ → Type 0 = λ ts. PollsLeast m ts so.plays (opening k setup v) in
      let C : List ℕ → Type 0 = λ ts. HasMade t d e (calls m ts so.plays (opening k setup v)) in
      let F : List ℕ → Type 0 = λ ts. CallsFit m ts so.plays (opening k setup v) in
      record {
        valid = λ some. valid;
        plays = so.plays;
        closing = closing;
        within = omega arith;
        is_run = subst R (sym whole) so.is_run;
        least = subst L (sym whole) so.least;
        value = value;
        made = subst C (sym whole) so.made;
        fits = subst F (sym whole) so.fits;
      }

  -- a refusal at the opening
  pub opening-refused : (end : V) (fault : DriveFault) → end ≡ v → (opening k setup v).shared.service ≡ v → e ≡ d → IsRefusal (fault_of k setup) fault → IsRefused m t k setup schedule v end d e fault
  opening-refused end (drive_fault.Setup f) same opened device is = (is, same, device)
  opening-refused end (drive_fault.OutOfMemory done) same opened device is =
      let P : ℕ → Type 0 = λ n. IsCutShort m t k setup schedule v end d e n in
      subst P (sym is) (none-played end same opened device)
