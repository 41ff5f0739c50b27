-- What parts tell of themselves, and what every call of theirs leaves of it.
use Rattle.std.specs.Prelude.{◌≡◌, ◌≢◌, ◌≤◌, ℕ, List, Option, None, Result, IfOk}
use Rattle.vub_base.specs.Causes.{Rose}
use Rattle.vub_base.specs.Told.{Told}
use Rattle.vub_model.specs.declared.constants.Constants.{Constants}
use Rattle.vub_model.specs.Shared.{Shared}
use Rattle.vub_ring.specs.Faults.{CountsFaults}
use Rattle.vub_ring.specs.declared.ops.PartsError.{PartsError}
use Rattle.vub_vring.specs.Calls.{Called}

pub record PartsState (V D : Type 0) : Type 1 where
  -- what is shared, where it is told
  pub shared : Option (Shared V)
  -- the device's value, where it is told
  pub device : Option D
  -- how many calls of the host have failed
  pub faults : ℕ
  -- how many of its calls the device has refused
  pub refusals : ℕ
  -- the host has no call that is to fail
  pub NeverFails : Type 0
  -- what is lent
  pub loan : List ℕ
  -- the device's constants, where they are told
  pub constants : Option Constants

-- the count of the host's faults rose
abbrev pub HasFailed : {V D : Type 0} → PartsState V D → PartsState V D → Type 0
HasFailed old new = Rose old.faults new.faults

-- A call that was made says and leaves what the relation says, where what is shared is told. One that was not made
-- changes nothing, told or not.
abbrev pub IsCall : {V D S : Type 0} → PartsState V D → PartsState V D → Result S PartsError
    → (S → Shared V → Shared V → Type 0) → Type 0
IsCall old new result R = Called result old.shared new.shared R

-- the same of a call of the device, where its value is told
abbrev pub IsDeviceCall : {V D S : Type 0} → PartsState V D → PartsState V D → Result S PartsError
    → (S → D → D → Type 0) → Type 0
IsDeviceCall old new result R = Called result old.device new.device R

-- where what is shared is told, it and what is shared after are in this relation
abbrev pub Tells : {V D : Type 0} → PartsState V D → PartsState V D → (Shared V → Shared V → Type 0) → Type 0
Tells old new R = Told old.shared new.shared R

-- parts that tell nothing wait by themselves, and do not answer that a change has to wait
abbrev pub WaitsWhereTold : {V D S : Type 0} → PartsState V D → Result S PartsError → S → Type 0
WaitsWhereTold old result waits = old.shared ≡ None → IfOk result (λ said. said ≢ waits)

-- What every call leaves, but one of the device: a fault comes only where the count of faults rose; the device, what is
-- lent and the constants stay.
pub record Keeps {V D S : Type 0} (old new : PartsState V D) (result : Result S PartsError) : Type 0 where
  pub faults : CountsFaults old.faults new.faults old.NeverFails new.NeverFails result
  pub device : new.device ≡ old.device
  pub refusals : new.refusals ≡ old.refusals
  pub loan : new.loan ≡ old.loan
  pub constants : new.constants ≡ old.constants

-- What a call of the device leaves: what is shared, what is lent and the constants stay, and the count of refusals
-- never falls.
pub record KeepsShared {V D S : Type 0} (old new : PartsState V D) (result : Result S PartsError) : Type 0 where
  pub shared : new.shared ≡ old.shared
  pub faults : CountsFaults old.faults new.faults old.NeverFails new.NeverFails result
  pub refusals : old.refusals ≤ new.refusals
  pub loan : new.loan ≡ old.loan
  pub constants : new.constants ≡ old.constants

-- nothing changes
pub record IsUntouched {V D : Type 0} (old new : PartsState V D) : Type 0 where
  pub shared : new.shared ≡ old.shared
  pub device : new.device ≡ old.device
  pub faults : new.faults ≡ old.faults
  pub refusals : new.refusals ≡ old.refusals
  pub still : old.NeverFails → new.NeverFails
  pub loan : new.loan ≡ old.loan
  pub constants : new.constants ≡ old.constants

-- What stays over any number of calls: the counts of faults and of refusals never fall, a host with no call to fail
-- still has none, and what is lent and the constants stay.
pub record Lasts {V D : Type 0} (old new : PartsState V D) : Type 0 where
  pub later : old.faults ≤ new.faults
  pub refusals : old.refusals ≤ new.refusals
  pub still : old.NeverFails → new.NeverFails
  pub loan : new.loan ≡ old.loan
  pub constants : new.constants ≡ old.constants
