-- Calls of a device, one list after the other.
use Rattle.std.proofs.Common.{◌≡◌, ℕ, ◌+◌, ◌≤◌, ◌⊎◌, inl, inr, List, [], ◌∷◌, ◌++◌, Option, Some, None, IsSome, false, true, refl, sym, ap, subst, ◌∙◌, arith}
use Rattle.vub_base.specs.Causes.{Rose}
use Rattle.vub_base.specs.Told.{Told}
use Rattle.vub_proto.specs.declared.device_said.DeviceSaid.{DeviceSaid}
use Rattle.vub_proto.specs.declared.device_said.DeviceSaid.TheVariants as outcome
use Rattle.vub_model.specs.declared.phase.Phase.{Phase}
use Rattle.vub_model.specs.declared.phase.Phase.TheVariants.{Idle, Polled, Sweep, Heard, Serving, Taken, Served, Stopped}
use Rattle.vub_model.specs.declared.play.Play.{Play}
use Rattle.vub_model.specs.declared.play.Play.TheVariants as play
use Rattle.vub_model.specs.DeviceCalls.{Call, Telling, Tells, moved_by, heard_in}
use Rattle.vub_vring.specs.Calls.{IsCounted}
use Rattle.vub_loop.specs.declared.turned.Turned.{Turned}
use Rattle.vub_loop.specs.declared.turned.Turned.TheVariants as turned
use Rattle.vub_loop.specs.Finished.{finished_by}
use Rattle.vub_loop.specs.Hearing.{calls_in, TurnCounted}
use Rattle.vub_core.specs.DeviceRun.{DeviceState, refusal_in, refused_in, RoseBy, HasMade}
use Rattle.vub_core.specs.Stepped.{play_of}

-- Values

tells-append : {D : Type 0} (t : Telling D) (d : D) (xs ys : List Call) → Tells t d xs → Tells t (moved_by t d xs) ys → Tells t d (xs ++ ys)
tells-append t d [] ys first then = then
tells-append t d (x ∷ xs) ys first then = (first.0, tells-append t (t.moved d x.op) xs ys first.1 then)

moved-append : {D : Type 0} (t : Telling D) (d : D) (xs ys : List Call) → moved_by t d (xs ++ ys) ≡ moved_by t (moved_by t d xs) ys
moved-append t d [] ys = refl
moved-append t d (x ∷ xs) ys = moved-append t (t.moved d x.op) xs ys

abbrev Moves : {D : Type 0} → Telling D → List Call → Option D → Option D → Type 0
Moves t cs old new = Told old new (λ before now. Tells t before cs × (now ≡ moved_by t before cs))

moves-append : {D : Type 0} (t : Telling D) (xs ys : List Call) (old mid new : Option D) → Moves t xs old mid → Moves t ys mid new → Moves t (xs ++ ys) old new
moves-append t xs ys None mid new first then = tt
moves-append t xs ys (Some d) None new first then = absurd first
moves-append t xs ys (Some d) (Some e) None first then = absurd then
moves-append {D} t xs ys (Some d) (Some e) (Some f) first then =
    let T : D → Type 0 = λ x. Tells t x ys in
    (tells-append t d xs ys first.0 (subst T first.1 then.0), then.1 ∙ ap (λ x. moved_by t x ys) first.1 ∙ sym (moved-append t d xs ys))

moves-none : {D : Type 0} (t : Telling D) (old new : Option D) → new ≡ old → Moves t [] old new
moves-none t None new same = tt
moves-none t (Some d) None same = (let bad : None ≡ Some d = same in absurd cc)
moves-none t (Some d) (Some e) same = (tt, (let is : Some e ≡ Some d = same in cc))

-- a device that told this value told the outcomes of its calls
pub tells-from : {D : Type 0} (t : Telling D) (old new : Option D) (d : D) (cs : List Call) → old ≡ Some d → Told old new (λ before now. Tells t before cs × (now ≡ moved_by t before cs)) → Tells t d cs
tells-from t None new d cs is told = (let bad : None ≡ Some d = is in absurd cc)
tells-from t (Some e) None d cs is told = absurd told
tells-from {D} t (Some e) (Some f) d cs is told = (let T : D → Type 0 = λ x. Tells t x cs in let same : e ≡ d = cc in subst T same told.0)

-- Counts

refused-append : (xs ys : List Call) → refused_in (xs ++ ys) ≡ refused_in xs + refused_in ys
refused-append [] ys = (let none : refused_in [] ≡ 0 = refl in omega (arith, none))
refused-append (x ∷ xs) ys = (let rest = refused-append xs ys in omega arith)

rose-append : (a b old mid new : ℕ) → RoseBy a old mid → RoseBy b mid new → RoseBy (a + b) old new
rose-append a b old mid new first then = omega (arith, first, then)

rose-none : (old new : ℕ) → old ≤ new → RoseBy 0 old new
rose-none old new later = omega (arith, later)

-- Both

pub made-append : {D : Type 0} (t : Telling D) (xs ys : List Call) (old mid new : DeviceState D) → HasMade t old mid xs → HasMade t mid new ys → HasMade t old new (xs ++ ys)
made-append t xs ys old mid new first then =
    let B : ℕ → Type 0 = λ n. RoseBy n old.refusals new.refusals in
    record {
      told = moves-append t xs ys old.value mid.value new.value first.told then.told;
      later = omega (arith, first.later, then.later);
      refused = subst B (sym (refused-append xs ys)) (rose-append (refused_in xs) (refused_in ys) old.refusals mid.refusals new.refusals first.refused then.refused);
    }

-- no call was made
pub made-none : {D : Type 0} (t : Telling D) (old new : DeviceState D) → new.value ≡ old.value → old.refusals ≤ new.refusals → HasMade t old new []
made-none t old new same later = record {
  told = moves-none t old.value new.value same;
  later = later;
  refused = rose-none old.refusals new.refusals later;
}

pub made-same : {D : Type 0} (t : Telling D) (old new : DeviceState D) → new ≡ old → HasMade t old new []
made-same {D} t old new same = let P : DeviceState D → Type 0 = λ x. HasMade t old x [] in subst P (sym same) (made-none t old old refl (omega arith))

-- the call of a turn
hear-rose : (said : DeviceSaid) (old new : ℕ) → old ≤ new → IsCounted old new said → RoseBy (refusal_in said + 0) old new
hear-rose (outcome.Refused n) old new later counted = (let rose : Rose old new = counted in omega (arith, rose))
hear-rose outcome.Done old new later counted = rose-none old new later
hear-rose (outcome.Content bytes) old new later counted = rose-none old new later
hear-rose (outcome.Object object) old new later counted = rose-none old new later
hear-rose (outcome.Number n) old new later counted = rose-none old new later

heard-rose : (k : ℕ) (phase : Phase) (said : DeviceSaid) (old new : ℕ) → old ≤ new → IsCounted old new said → RoseBy (refused_in (heard_in k phase (play.Hear said))) old new
heard-rose k Idle said old new later counted = rose-none old new later
heard-rose k (Polled object token) said old new later counted = rose-none old new later
heard-rose k Sweep said old new later counted = rose-none old new later
heard-rose k (Heard token) said old new later counted = hear-rose said old new later counted
heard-rose k (Serving queues) said old new later counted = rose-none old new later
heard-rose k (Taken e queues) said old new later counted = rose-none old new later
heard-rose k (Served e reply queues) said old new later counted = rose-none old new later
heard-rose k (Stopped cause) said old new later counted = rose-none old new later

-- a step other than a Hear makes no call
abbrev IsHear : Play → Type 0
IsHear (play.Hear said) = Unit {0}
IsHear l = ⊥

none-heard : (k : ℕ) (phase : Phase) (l : Play) → (IsHear l → ⊥) → heard_in k phase l ≡ []
none-heard k (Heard token) (play.Hear said) none = absurd (none tt)
none-heard k (Heard token) l none = refl
none-heard k phase l none = refl

none-rose : (k : ℕ) (phase : Phase) (l : Play) (old new : ℕ) → (IsHear l → ⊥) → old ≤ new → RoseBy (refused_in (heard_in k phase l)) old new
none-rose k phase l old new none later = (let B : List Call → Type 0 = λ cs. RoseBy (refused_in cs) old new in subst B (sym (none-heard k phase l none)) (rose-none old new later))

played-rose : (k : ℕ) (phase : Phase) (l : Play) (old new : ℕ) → old ≤ new → TurnCounted old new (turned.Played l) → RoseBy (refused_in (heard_in k phase l)) old new
played-rose k phase (play.Hear said) old new later counted = heard-rose k phase said old new later counted
played-rose k phase l old new later counted = none-rose k phase l old new (λ hears. hears) later

-- what a turn made of the device, with the play that it is told by
pub made-turn : {D : Type 0} (t : Telling D) (k : ℕ) (phase : Phase) (turn : Turned) (old new : DeviceState D) → Told old.value new.value (λ d e. Tells t d (calls_in k phase turn) × (e ≡ moved_by t d (calls_in k phase turn))) → TurnCounted old.refusals new.refusals turn → old.refusals ≤ new.refusals → HasMade t old new (heard_in k phase (play_of turn))
made-turn t k phase (turned.Played l) old new told counted later = record { told = told; later = later; refused = played-rose k phase l old.refusals new.refusals later counted }
made-turn {D} t k phase turned.Pass old new told counted later = (let P : List Call → Type 0 = λ cs. HasMade t old new cs in subst P (sym (none-heard k phase play.Pass (λ hears. hears))) (record { told = told; later = later; refused = rose-none old.refusals new.refusals later }))
made-turn {D} t k phase turned.Failed old new told counted later = (let P : List Call → Type 0 = λ cs. HasMade t old new cs in subst P (sym (none-heard k phase play.Pass (λ hears. hears))) (record { told = told; later = later; refused = rose-none old.refusals new.refusals later }))

-- a step that records a take or a use makes no call
pub recorded-none : {D : Type 0} (t : Telling D) (k : ℕ) (before now : Phase) (l : Play) (old new : DeviceState D) → (l ≡ play.Take) ⊎ IsSome (finished_by l before now) → HasMade t old new (heard_in k before l) → HasMade t old new []
recorded-none t k before now (play.Hear said) old new (inl take) made = absurd cc
recorded-none t k before now (play.Hear said) old new (inr some) made = (let bad : false ≡ true = some in absurd cc)
recorded-none {D} t k before now l old new cause made = (let P : List Call → Type 0 = λ cs. HasMade t old new cs in subst P (none-heard k before l (λ hears. hears)) made)
