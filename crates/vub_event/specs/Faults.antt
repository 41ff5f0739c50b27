-- The count of a host's faults: it never falls, and a call answers Failed only where it rose. A host that has no call
-- to fail keeps none, and never answers Failed.
use Rattle.std.specs.Prelude.{ℕ, Result, IsErrOf}
use Rattle.vub_base.specs.Causes.{HasCause}
use Rattle.vub_event.specs.declared.error.HostError.{HostError}
use Rattle.vub_event.specs.declared.error.HostError.TheVariants.{Failed}

-- the counts before and now; `Sound` and `StillSound` say that there was and is no call to fail
pub record CountsFaults {T : Type 0} (before now : ℕ) (Sound StillSound : Type 0)
    (result : Result T HostError) : Type 0 where
  pub cause : HasCause before now result Failed
  pub still : Sound → StillSound
  pub sound : Sound → ¬ (IsErrOf result Failed)
