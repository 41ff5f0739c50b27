-- A batch with enough rounds ends at rest.
use Rattle.std.proofs.Common.{◌≡◌, ℕ, zero, suc, ◌+◌, ◌*◌, ◌^◌, ◌<◌, ◌≤◌, true, List, [], ◌∷◌, ◌++◌, length, refl, sym, subst, arith}
use Rattle.std.specs.List.{range_with_len, repeat}
use Rattle.vub_mem.specs.Memory.{Guest}
use Rattle.vub_mem.specs.Place.{content_of}
use Rattle.vub_driver.specs.declared.layout.Layout.{Layout}
use Rattle.vub_model.specs.declared.constants.Constants.{Constants}
use Rattle.vub_model.specs.declared.play.Play.{Play}
use Rattle.vub_model.specs.declared.records.Span.{Span}
use Rattle.vub_model.specs.declared.run.Run.{Run}
use Rattle.vub_model.specs.declared.setup.Guest.TheVariants.{Signal}
use Rattle.vub_model.specs.declared.setup.Setup.{Setup}
use Rattle.vub_model.specs.DeviceCalls.{Telling}
use Rattle.vub_model.specs.Opening.{opening}
use Rattle.vub_model.specs.RingRecord.{limit}
use Rattle.vub_model.specs.RunOf.{IsAtRest, IsRun}
use Rattle.vub_model.specs.Service.{Meaning}
use Rattle.vub_model.specs.ValidSetup.{IsValid}
use Rattle.vub_model.specs.World.{World}
use Rattle.vub_core.specs.DeviceRun.{DeviceState}
use Rattle.vub_core.specs.Outcome.{IsPlayed}
use Rattle.vub_laws.proofs.DrainRuns.{opening-goes}
use Rattle.vub_talk.specs.Ample.{IsAmple, IsBatch}
use Rattle.vub_talk.specs.Asking.{AreSmall}
use Rattle.vub_talk.specs.Batches.{asks_stored, batch_setup}
use Rattle.vub_talk.specs.Ready.{AreOff, IsReady}
use Rattle.vub_talk.specs.declared.ask.Ask.{Ask}
use Rattle.vub_talk.proofs.Began.{opening-safe, objects-off}
use Rattle.vub_talk.proofs.Guarding.{Sits, sits, one}
use Rattle.vub_talk.proofs.Openings.{opening-stands, opening-measure, ready-alike}
use Rattle.vub_talk.proofs.Resting.{comes-to-rest}
use Rattle.vub_talk.proofs.Safe.{IsSafe, run-safe}

length-rounds : (rounds : ℕ) → length (repeat rounds (range_with_len 0 3)) ≡ 3 * rounds
length-rounds zero = refl
length-rounds (suc rounds) = (let rest = length-rounds rounds in omega (arith, rest))

module _ {V : Type 0} (m : Meaning V) (l : Layout) (at : Sits l) (n : ℕ) (g : Guest) (ready : IsReady l n g) (asks : List Ask) (small : AreSmall l asks) (v : V) (c : Constants) (some : 0 < c.queues) (rounds : ℕ) (enough : 13 * length asks + 26 ≤ rounds) (few : rounds < 2 ^ 32) where
  abbrev batch : Setup
  batch = batch_setup l n (content_of g.contents 0) (asks_stored l n asks ++ Signal 1 ∷ [])

  rests-with : (mask : ℕ) (plays : List Play) (z : World V) → IsValid (record c { masks = mask ∷ [] }) batch → IsRun m (repeat rounds (range_with_len 0 3)) plays (opening (record c { masks = mask ∷ [] }) batch v) z → IsAtRest z
  rests-with mask plays z valid run =
      let long = length-rounds rounds in
      let short : length (repeat rounds (range_with_len 0 3)) < limit = omega (arith, long, few) in
      let goes = opening-goes (record c { masks = mask ∷ [] }) batch v valid (length (repeat rounds (range_with_len 0 3))) short in
      let begins : IsReady l n (record { regions = one; contents = record { object = 0; bytes = content_of g.contents 0 } ∷ [] }) = ready-alike l n g (record { regions = one; contents = record { object = 0; bytes = content_of g.contents 0 } ∷ [] }) refl refl ready in
      let stands = opening-stands l at n (content_of g.contents 0) v c mask some asks small begins in
      let most = opening-measure l at n (content_of g.contents 0) v c mask some asks begins in
      comes-to-rest m l at rounds plays (opening (record c { masks = mask ∷ [] }) batch v) z n (13 * length asks + 7) goes stands run (omega (arith, most, enough))

  rests-by : (masks : List ℕ) → length masks ≡ 1 → (plays : List Play) (z : World V) → IsValid (record c { masks = masks }) batch → IsRun m (repeat rounds (range_with_len 0 3)) plays (opening (record c { masks = masks }) batch v) z → IsAtRest z
  rests-by [] single plays z valid run = absurd (omega (arith, single))
  rests-by (mask ∷ []) single plays z valid run = rests-with mask plays z valid run
  rests-by (mask ∷ other ∷ masks) single plays z valid run = absurd (omega (arith, single))

-- where the rounds are ample the run ends at rest
pub ample_rests : {V D : Type 0} (m : Meaning V) (t : Telling D) (k : Constants) (setup : Setup) (schedule : List ℕ) (v end : V) (before now : DeviceState D) (run : Run) → IsPlayed m t k setup schedule v end before now run → IsAmple k setup schedule → run.rest ≡ true
ample_rests {V} m t k setup schedule v end before now run played ample =
    let b = ample.batch in
    let S : Setup → Type 0 = λ s. IsValid k s in
    let valid = subst S b.setup_is played.valid in
    let R : Setup → Type 0 = λ s. IsRun m schedule played.plays (opening k s v) played.closing in
    let T : List ℕ → Type 0 = λ turns. IsRun m turns played.plays (opening k (batch_setup b.layout b.number (content_of b.guest.contents 0) (asks_stored b.layout b.number b.asks ++ Signal 1 ∷ [])) v) played.closing in
    let is_run = subst T ample.schedule_is (subst R b.setup_is played.is_run) in
    let rest = rests-by m b.layout (sits b.layout b.laid) b.number b.guest b.ready b.asks b.small v k b.queues ample.rounds ample.enough ample.few k.masks ample.one played.plays played.closing valid is_run in
    played.shows.rests.1 rest

-- the run of a batch writes no guarded byte
pub batch_off : {V D : Type 0} (m : Meaning V) (t : Telling D) (k : Constants) (setup : Setup) (schedule : List ℕ) (v end : V) (before now : DeviceState D) (run : Run) → IsPlayed m t k setup schedule v end before now run → (b : IsBatch k setup) → AreOff b.layout run.written
batch_off {V} m t k setup schedule v end before now run played b =
    let at = sits b.layout b.laid in
    let begins : IsReady b.layout b.number (record { regions = one; contents = record { object = 0; bytes = content_of b.guest.contents 0 } ∷ [] }) = ready-alike b.layout b.number b.guest (record { regions = one; contents = record { object = 0; bytes = content_of b.guest.contents 0 } ∷ [] }) refl refl b.ready in
    let first = opening-safe b.layout at b.number (content_of b.guest.contents 0) v k b.queues b.asks b.small begins in
    let S : Setup → Type 0 = λ s. IsSafe b.layout (opening k s v) in
    let last = run-safe m b.layout at schedule played.plays (opening k setup v) played.closing (subst S (sym b.setup_is) first) played.is_run in
    let W : List Span → Type 0 = λ spans. AreOff b.layout spans in
    subst W (sym played.shows.written_is) (objects-off b.layout played.closing.written played.closing.shared.guest last.safe.off 0 setup.objects)
