-- A refusal that says that there is no script; the other one is want of memory.
use Rattle.std.specs.Prelude.{Bool, true, false}
use Rattle.vub_forms.specs.declared.refusal.Refusal.{Refusal}
use Rattle.vub_forms.specs.declared.refusal.Refusal.TheVariants.{NoScript, OutOfMemory}

abbrev pub says_no_script : Refusal → Bool
says_no_script (NoScript fault) = true
says_no_script OutOfMemory = false
