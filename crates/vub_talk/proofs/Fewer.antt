-- Where a party still had a step, there were too few rounds.
use Rattle.std.proofs.Common.{◌≡◌, ℕ, ◌+◌, ◌-◌, ◌*◌, ◌^◌, ◌<◌, ◌≤◌, inl, inr, Bool, true, false, true≢false, not, cond, Option, Some, None, min, List, length, refl, sym, ap, subst, ◌∙◌, arith}
use Rattle.std.specs.Prelude.{option_map}
use Rattle.std.proofs.lemmas.Bool.{cases_lt}
use Rattle.vub_driver.specs.Places.{half_of}
use Rattle.vub_driver.specs.declared.error.DriverError.{DriverError}
use Rattle.vub_driver.specs.declared.error.DriverError.TheVariants as driver
use Rattle.vub_driver.specs.declared.layout.Layout.{Layout}
use Rattle.vub_model.specs.declared.constants.Constants.{Constants}
use Rattle.vub_model.specs.declared.run.SetupFault.{SetupFault}
use Rattle.vub_model.specs.declared.run.Run.{Run}
use Rattle.vub_model.specs.declared.setup.Setup.{Setup}
use Rattle.vub_model.specs.DeviceCalls.{Telling}
use Rattle.vub_model.specs.Service.{Meaning}
use Rattle.vub_core.specs.DeviceRun.{DeviceState}
use Rattle.vub_core.specs.Outcome.{IsPlayed}
use Rattle.vub_talk.specs.Ample.{AreFew, IsBatch, IsFew, IsNoRest}
use Rattle.vub_talk.specs.Batches.{schedule_of}
use Rattle.vub_talk.specs.Faults.{device_fault, has_worker, setup_fault}
use Rattle.vub_talk.specs.Late.{refusal_of}
use Rattle.vub_talk.specs.declared.ask.Ask.{Ask}
use Rattle.vub_talk.specs.declared.fault.TalkFault.{TalkFault}
use Rattle.vub_talk.specs.declared.fault.TalkFault.TheVariants as fault
use Rattle.vub_talk.proofs.Rested.{ample_rests}

-- no refusal of the driver is that
pub refusal_rests : (e : DriverError) → IsNoRest (refusal_of e)
refusal_rests driver.OutOfMemory = tt
refusal_rests e = tt

pub few_played : {V D : Type 0} (m : Meaning V) (t : Telling D) (k : Constants) (setup : Setup) (schedule : List ℕ) (v end : V) (before now : DeviceState D) (run : Run) (batch : ℕ) → IsPlayed m t k setup schedule v end before now run → run.rest ≡ false → (b : IsBatch k setup) → length k.masks ≡ 1 → (rounds : ℕ) → schedule ≡ schedule_of rounds 3 → rounds < 2 ^ 32 → IsFew (length b.asks) batch rounds (fault.NotAtRest batch)
few_played m t k setup schedule v end before now run batch played rest b single rounds turns few =
    elim (cases_lt rounds (13 * length b.asks + 26)) as (λ _. IsFew (length b.asks) batch rounds (fault.NotAtRest batch)) [
      | inl less ↦ (refl, less)
      | inr enough ↦ absurd (true≢false (sym (ample_rests m t k setup schedule v end before now run played (record { batch = b; one = single; rounds = rounds; schedule_is = turns; enough = enough; few = few })) ∙ rest))
    ]

-- what is none of that is none of these
pub no_rest_few : (asks batch rounds : ℕ) (e : TalkFault) → IsNoRest e → IsFew asks batch rounds e
no_rest_few asks batch rounds (fault.NotAtRest b) none = absurd none
no_rest_few asks batch rounds e none = tt

-- a batch that is as long as half of the ring, or the last one
pub few_batch : (l : Layout) (asks : List Ask) (count batch done rounds : ℕ) (e : TalkFault) → done ≡ batch * half_of l → count ≤ half_of l → count ≤ length asks - done → IsFew count batch rounds e → AreFew l asks rounds e
few_batch l asks count batch done rounds (fault.NotAtRest b) here most within few =
    let same : b * half_of l ≡ done = ap (λ x. x * half_of l) few.0 ∙ sym here in
    let less : rounds < 13 * count + 26 = few.1 in
    let least : count ≤ min (half_of l) (length asks - b * half_of l) = omega (arith, most, within, same) in
    omega (arith, less, least)
few_batch l asks count batch done rounds e here most within few = tt

-- no test of the device is that
device_by : (b : Bool) (o : Option SetupFault) (l : Layout) (asks : List Ask) (rounds : ℕ) (e : TalkFault) → cond b (Some fault.NoWorker) (option_map (λ f. fault.Setup f) o) ≡ Some e → AreFew l asks rounds e
device_by true o l asks rounds e is = (let same : fault.NoWorker ≡ e = cc in subst (λ x. AreFew l asks rounds x) same tt)
device_by false (Some f) l asks rounds e is = (let same : fault.Setup f ≡ e = cc in subst (λ x. AreFew l asks rounds x) same tt)
device_by false None l asks rounds e is = absurd (let no : ⊥ = cc in no)

pub device_few : (k : Constants) (l : Layout) (asks : List Ask) (rounds : ℕ) (e : TalkFault) → device_fault k l ≡ Some e → AreFew l asks rounds e
unfolding device_fault
device_few k l asks rounds e is = device_by (not (has_worker k)) (setup_fault k l) l asks rounds e is
