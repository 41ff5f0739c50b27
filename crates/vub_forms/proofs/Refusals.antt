-- A refusal of a part, told from the whole.
use Rattle.std.proofs.Common.{◌≡◌, Bool, true, false, true≢false, Option, Err, sym, refl}
use Rattle.vub_forms.specs.declared.refusal.Refusal.{Refusal}
use Rattle.vub_forms.specs.declared.refusal.Refusal.TheVariants.{NoScript, OutOfMemory}
use Rattle.vub_forms.specs.Reading.{Gives}
use Rattle.vub_forms.specs.Refused.{says_no_script}

-- what a refusal says of the grammar holds of each one that says no more
pub gives_below : {X : Type 0} (inner outer : Refusal) (want : Option X) → (says_no_script outer ≡ true → says_no_script inner ≡ true) → Gives (Err inner) want → Gives (Err outer) want
gives_below (NoScript f) (NoScript g) want kind given = given
gives_below OutOfMemory (NoScript g) want kind given = absurd (true≢false (sym (kind refl)))
gives_below inner OutOfMemory want kind given = tt
