-- The trace that an input calls for.
use Rattle.std.specs.Prelude.{◌≡◌, ℕ, List, Result, Ok, Err}
use Rattle.vub_model.specs.declared.run.Run.{Run}
use Rattle.vub_script.specs.declared.script.Script.{Script}
use Rattle.vub_share.specs.Inputs.{HasScript, IsTooLong, IsNoScript, IsSetUpRefused}
use Rattle.vub_share.specs.ScriptRun.{IsRunOf}
use Rattle.vub_share.specs.declared.no_run.NoRun.{NoRun}
use Rattle.vub_share.specs.declared.no_run.NoRun.TheVariants.{Read, TooLong, NotAScript, Unfit, Memory}
use Rattle.vub_trace.specs.Text.{trace_text}

-- the trace of the headline's run of a script
abbrev pub IsTraceOf : Script → List ℕ → Type 0
IsTraceOf script text =
    (run : Run) × IsRunOf script run × (text ≡ trace_text script.setup script.device.masks script.schedule run)

-- and of the script that an input is
abbrev pub HasTrace : List ℕ → List ℕ → Type 0
HasTrace input text = (script : Script) × HasScript input script × IsTraceOf script text

-- what an input calls for, but for read faults and want of memory
abbrev pub CallsForTrace : List ℕ → Result (List ℕ) NoRun → Type 0
CallsForTrace input (Ok text) = HasTrace input text
CallsForTrace input (Err TooLong) = IsTooLong input
CallsForTrace input (Err (NotAScript fault)) = IsNoScript input
CallsForTrace input (Err (Unfit why)) = IsSetUpRefused input
CallsForTrace input (Err Read) = Unit {0}
CallsForTrace input (Err Memory) = Unit {0}
