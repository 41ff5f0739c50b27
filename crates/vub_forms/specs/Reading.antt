-- What it is to read a part of a script, and how parts are put together.
use Rattle.std.specs.Prelude.{◌≡◌, Option, Some, None, Result, Ok, Err}
use Rattle.serde_json.specs.Data.{Data}
use Rattle.vub_forms.specs.declared.refusal.Refusal.{Refusal}
use Rattle.vub_forms.specs.declared.refusal.Refusal.TheVariants.{NoScript, OutOfMemory}

-- where the first part is there, what the second makes of it
infixl 10 ◌>>=◌
abbrev pub ◌>>=◌ : {A B : Type 0} → Option A → (A → Option B) → Option B
(Some x) >>= f = f x
None >>= f = None

-- a reader's answer is what the grammar gives, unless memory was refused
abbrev pub Gives : {X : Type 0} → Result X Refusal → Option X → Type 0
Gives (Ok x) want = want ≡ Some x
Gives (Err (NoScript fault)) want = want ≡ None
Gives (Err OutOfMemory) want = Unit {0}

-- what stands at a key, or the default where the key is missing
abbrev pub or_default : {A : Type 0} → A → (Data → Option A) → Option Data → Option A
or_default x f None = Some x
or_default x f (Some d) = f d

-- what stands at a key that has to be given
abbrev pub given : {A : Type 0} → (Data → Option A) → Option Data → Option A
given f None = None
given f (Some d) = f d
