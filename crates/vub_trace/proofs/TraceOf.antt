-- From a script to its trace.
use Rattle.std.proofs.Common.{◌≡◌, ◌∙◌, ℕ, List, Option, Some, None, IfSome, Err, inl, inr, is_some, ap, subst}
use Rattle.vub_model.specs.declared.run.Run.{Run}
use Rattle.vub_script.specs.declared.script.Script.{Script}
use Rattle.vub_share.specs.Inputs.{HasScript, Says}
use Rattle.vub_share.specs.ScriptRun.{IsRunOf, CausedBy, script_with}
use Rattle.vub_share.specs.declared.no_run.NoRun.{NoRun}
use Rattle.vub_share.specs.declared.no_run.NoRun.TheVariants.{Read, TooLong, NotAScript, Unfit, Memory}
use Rattle.vub_share.specs.declared.no_run.Unfit.TheVariants as unfit
use Rattle.vub_trace.specs.Text.{trace_text}
use Rattle.vub_trace.specs.Traces.{IsTraceOf, CallsForTrace}

pub if-told : {A : Type 0} (o : Option A) (P Q : A → Type 0) → IfSome o P → ((a : A) → P a → Q a) → IfSome o Q
if-told None P Q is step = tt
if-told (Some a) P Q is step = step a is

-- a script is the script of its parts
pub trace-again : (script : Script) (masks turns others : List ℕ) (run : Run) (text : List ℕ) → masks ≡ script.device.masks → turns ≡ script.schedule → others ≡ script.schedule
    → IsRunOf (script_with script.setup script.device script.service turns) run → text ≡ trace_text script.setup masks others run → IsTraceOf script text
trace-again script masks turns others run text same is are ran told =
    let P : List ℕ → Type 0 = λ ts. IsRunOf (script_with script.setup script.device script.service ts) run in
    (run, subst P is ran, told ∙ ap (λ ms. trace_text script.setup ms others run) same ∙ ap (λ ts. trace_text script.setup script.device.masks ts run) are)

-- an input that gives no script calls for no trace
pub calls-unread : (input : List ℕ) (why : NoRun) → Says input (Err why) → CallsForTrace input (Err why)
calls-unread input TooLong says = says
calls-unread input (NotAScript fault) says = says
calls-unread input (Unfit why) says = inl says
calls-unread input Read says = tt
calls-unread input Memory says = tt

-- nor does one whose script has none
pub calls-caused : (input : List ℕ) (script : Script) (why : NoRun) → HasScript input script → CausedBy script why → CallsForTrace input (Err why)
calls-caused input script (Unfit (unfit.Setup fault)) has is = inr (script, has, ap is_some is)
calls-caused input script (Unfit (unfit.Limit limit)) has is = absurd is
calls-caused input script Memory has is = tt
calls-caused input script Read has is = absurd is
calls-caused input script TooLong has is = absurd is
calls-caused input script (NotAScript fault) has is = absurd is
