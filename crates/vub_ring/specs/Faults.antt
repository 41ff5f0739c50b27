-- The count of the host's faults, as a call of `Parts` counts them: it never falls, and a call answers Fault only where
-- it rose. Parts over a host that has no call to fail never answer Fault.
use Rattle.std.specs.Prelude.{ℕ, Result, IsErrOf}
use Rattle.vub_base.specs.Causes.{HasCause}
use Rattle.vub_ring.specs.declared.ops.PartsError.{PartsError}
use Rattle.vub_ring.specs.declared.ops.PartsError.TheVariants.{Fault}

-- the counts before and now; `Sound` and `StillSound` say that there was and is no call to fail
pub record CountsFaults {T : Type 0} (before now : ℕ) (Sound StillSound : Type 0) (result : Result T PartsError)
    : Type 0 where
  pub cause : HasCause before now result Fault
  pub still : Sound → StillSound
  pub sound : Sound → ¬ (IsErrOf result Fault)
