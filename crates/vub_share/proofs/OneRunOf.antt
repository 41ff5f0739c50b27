-- An input has one run.
use Rattle.std.proofs.Common.{◌≡◌, true, ◌⊎◌, inl, inr, ℕ, Bool, List, Option, Some, None, IfSome, Result, Ok, Err, IfOk, IfErr, IsSome, is_some, refl, sym, ap, subst, ◌∙◌}
use Rattle.vub_model.specs.declared.run.Run.{Run}
use Rattle.vub_script.specs.Script.{read_draft, script_from}
use Rattle.vub_core.proofs.OneOutcome.{one-outcome}
use Rattle.vub_share.specs.Inputs.{HasScript, HasRun, Says, CallsFor}
use Rattle.vub_share.specs.declared.no_run.NoRun.{NoRun}
use Rattle.vub_share.specs.declared.no_run.NoRun.TheVariants.{Read, TooLong, NotAScript, Unfit, Memory}
use Rattle.vub_share.specs.declared.no_run.Unfit.TheVariants as unfit
use Rattle.vub_script.specs.declared.script.Script.{Script}
use Rattle.vub_share.specs.Device.{ScriptState, new_device}
use Rattle.vub_share.specs.ScriptRun.{script_service, script_device, shown, tracks, constants_with, constants_in, IsRunOf, CausedBy, script_with, no_run_for}
use Rattle.vub_share.specs.Service.{service_from}
use Rattle.vub_share.specs.declared.service.ScriptService.{ScriptService}
use Rattle.vub_script.specs.declared.service_form.ServiceForm.{ServiceForm}
use Rattle.vub_model.specs.declared.run.DriveFault.{DriveFault}
use Rattle.vub_model.specs.declared.run.DriveFault.TheVariants as drive_fault
use Rattle.vub_model.specs.declared.setup.Setup.{Setup}
use Rattle.vub_model.specs.ValidSetup.{fault_of}
use Rattle.vub_core.specs.Outcome.{IsPlayed, IsRefused}
use Rattle.vub_script.specs.declared.draft.Draft.{Draft}
use Rattle.vub_script.specs.Directory.{is_served}
use Rattle.vub_stream.specs.Whole.{WritesFront}
use Rattle.vub_share.specs.Asked.{text_for, IsOnlyRunFor}
use Rattle.vub_share.specs.declared.command.Command.{Command}
use Rattle.vub_share.specs.declared.command.Command.TheVariants.{Play, Make}
use Rattle.vub_script.specs.declared.device_form.DeviceForm.{DeviceForm}

some-same : {A : Type 0} (o : Option A) (a b : A) → o ≡ Some a → o ≡ Some b → a ≡ b
some-same o a b is are = (let both : Some a ≡ Some b = sym is ∙ are in cc)

one-run-of : (script : Script) (run other : Run) → IsRunOf script run → IsRunOf script other → run ≡ other
one-run-of script run other is are =
    let first = new_device script.device in
    one-outcome script_service script_device first (constants_in script.device) script.setup script.schedule (service_from script.service) is.0 are.0 (shown first) (shown is.1) (shown are.1) run other refl is.2 are.2

-- a generated script has one run
pub one-of-script : (script : Script) (run other : Run) → IsRunOf script run → IsRunOf script other → run ≡ other
one-of-script script run other is are = one-run-of script run other is are

-- an input is one script
one-script : (input : List ℕ) (script other : Script) → HasScript input script → HasScript input other → script ≡ other
one-script input script other is are =
    is.1.3 ∙ ap script_from (some-same (read_draft input) is.1.0 are.1.0 is.1.1 are.1.1) ∙ sym are.1.3

pub one-of-input : (input : List ℕ) (run other : Run) → HasRun input run → HasRun input other → run ≡ other
one-of-input input run other is are =
    let P : Script → Type 0 = λ s. IsRunOf s other in
    one-run-of is.0 run other is.2 (subst P (one-script input are.0 is.0 are.1 is.1) are.2)

pub if-some : {A : Type 0} (o : Option A) (P Q : A → Type 0) → IfSome o P → ((a : A) → P a → Q a) → IfSome o Q
if-some None P Q is step = tt
if-some (Some a) P Q is step = step a is

pub if-there : {A : Type 0} (o : Option A) (a : A) (P : A → Type 0) → (o ≡ Some a) ⊎ (o ≡ None) → P a → IfSome o P
if-there {A} o a P (inl some) p = let Q : Option A → Type 0 = λ x. IfSome x P in subst Q (sym some) p
if-there {A} o a P (inr none) p = let Q : Option A → Type 0 = λ x. IfSome x P in subst Q (sym none) tt

pub if-ok-and : {T E A : Type 0} (r : Result T E) (P : T → Type 0) → A → IfOk r P → IfOk r (λ x. A × P x)
if-ok-and (Ok x) P a p = (a, p)
if-ok-and (Err e) P a p = tt

-- a run over the device and the service of a script, whose device tracks pages as the script says
pub run-of : (tracked : Bool) (setup : Setup) (turns : List ℕ) (form : DeviceForm) (wanted : ServiceForm) (d e : ScriptState) (v end : ScriptService) (run : Run) → tracked ≡ tracks form.bitmap → d ≡ new_device form → v ≡ service_from wanted → IsPlayed script_service script_device (constants_with tracked d.form) setup turns v end (shown d) (shown e) run → IsRunOf (script_with setup form wanted turns) run
run-of tracked setup turns form wanted d e v end run so same served played =
    let P : Bool → ScriptState → ScriptService → Type 0 = λ b x s. IsPlayed script_service script_device (constants_with b x.form) setup turns s end (shown x) (shown e) run in
    (end, e, subst (λ b. P b (new_device form) (service_from wanted)) so (subst (λ x. P tracked x (service_from wanted)) same (subst (λ s. P tracked d s) served played)))

-- a script whose set-up `drive` refused fails that test
pub why-none : (tracked : Bool) (d e : ScriptState) (form : DeviceForm) (wanted : ServiceForm) (setup : Setup) (turns : List ℕ) (v end : ScriptService) (fault : DriveFault) → tracked ≡ tracks form.bitmap → d ≡ new_device form → IsRefused script_service script_device (constants_with tracked d.form) setup turns v end (shown d) (shown e) fault → CausedBy (script_with setup form wanted turns) (no_run_for fault)
why-none tracked d e form wanted setup turns v end (drive_fault.Setup f) so same refused =
    let P : Bool → ScriptState → Type 0 = λ b x. fault_of (constants_with b x.form) setup ≡ Some f in
    subst (λ b. P b (new_device form)) so (subst (P tracked) same refused.0)
why-none tracked d e form wanted setup turns v end (drive_fault.OutOfMemory done) so same refused = tt

-- an input that gives no script calls for no run
pub calls-unread : (input : List ℕ) (why : NoRun) → Says input (Err why) → CallsFor input (Err why)
calls-unread input TooLong says = says
calls-unread input (NotAScript fault) says = says
calls-unread input (Unfit why) says = inl says
calls-unread input Read says = tt
calls-unread input Memory says = tt

-- nor does one whose script has none
pub calls-caused : (input : List ℕ) (script : Script) (why : NoRun) → HasScript input script → CausedBy script why → CallsFor input (Err why)
calls-caused input script (Unfit (unfit.Setup fault)) has is = inr (script, has, ap is_some is)
calls-caused input script (Unfit (unfit.Limit limit)) has is = absurd is
calls-caused input script Memory has is = tt
calls-caused input script Read has is = absurd is
calls-caused input script TooLong has is = absurd is
calls-caused input script (NotAScript fault) has is = absurd is

-- what playing the script of an input answers is what the input calls for
pub calls-played : (input : List ℕ) (script : Script) (result : Result Run NoRun) → HasScript input script → IfOk result (IsRunOf script) → IfErr result (CausedBy script) → CallsFor input result
calls-played input script (Ok run) has ran caused = (script, has, ran)
calls-played input script (Err why) has ran caused = calls-caused input script why has caused

-- a script that is written out keeps its service
pub from-served : (d : Draft) (script : Script) → script ≡ script_from d → is_served d.service ≡ true → is_served script.service ≡ true
unfolding script_from
from-served d script is served = ap (λ s. is_served s.service) is ∙ served

-- what is asked of a script that is played holds of none that is made
pub not-played : (P : List ℕ → Type 0) (R : Type 0) (left : Option (List ℕ)) (wanted : Option Command) (count : ℕ) → wanted ≡ Some (Make count) → IfSome left (λ input. wanted ≡ Some Play → P input → R)
not-played P R None wanted count is = tt
not-played P R (Some input) wanted count is = λ play p. absurd (let same : Some (Make count) ≡ Some Play = sym is ∙ play in cc)

-- a front of the text that is asked for
pub front-for : {X : Type 0} (status : ℕ) (found : Option Run) (run : Run) (wanted other : Option Command) (old new : Option (List ℕ)) → wanted ≡ other → (status ≡ 5 → (found ≡ Some run) × WritesFront old new (text_for other run) × X) → status ≡ 5 → IfSome found (λ r. WritesFront old new (text_for wanted r))
front-for status found run wanted other old new is h five =
    let f = h five in
    let P : Option Run → Type 0 = λ o. IfSome o (λ r. WritesFront old new (text_for wanted r)) in
    let Q : Option Command → Type 0 = λ w. WritesFront old new (text_for w run) in
    subst P (sym f.0) (subst Q (sym is) f.1)

-- the one run of the script that was read, or of the generated one
pub only-run-for : (found : Option Run) (run : Run) (wanted other : Option Command) (left : Option (List ℕ)) → wanted ≡ other → (found ≡ Some run) ⊎ (found ≡ None) → IsOnlyRunFor other left run → IfSome found (IsOnlyRunFor wanted left)
only-run-for found run wanted other left is there only =
    let Q : Option Command → Type 0 = λ w. IsOnlyRunFor w left run in
    if-there found run (IsOnlyRunFor wanted left) there (subst Q (sym is) only)

-- a script is the script of its parts
pub run-again : (script : Script) (turns : List ℕ) (run : Run) → turns ≡ script.schedule → IsRunOf (script_with script.setup script.device script.service turns) run → IsRunOf script run
run-again script turns run is ran =
    let P : List ℕ → Type 0 = λ ts. IsRunOf (script_with script.setup script.device script.service ts) run in
    subst P is ran
