-- Which calls of a host in memory fail: those whose numbers are listed, counted from 0 over the calls that answer a
-- Result (this project's own). A count stays at 2 ^ 64 - 1 once it is there.
use Rattle.std.specs.Prelude.{◌≡◌, ◌↔◌, Bool, true, if◌then◌else◌, Result, IsErrOf}
use Rattle.vub_base.specs.Causes.{one_more, is_listed}
use Rattle.vub_event.specs.declared.error.HostError.{HostError}
use Rattle.vub_event.specs.declared.error.HostError.TheVariants.{Failed}
use Rattle.vub_event.specs.declared.fault_plan.FaultPlan.{FaultPlan}

-- the next call is to fail
abbrev pub is_struck : FaultPlan → Bool
is_struck plan = is_listed plan.calls.items plan.made

-- a call was counted; it failed exactly where it was to fail, and then the failure was counted
pub record GoesByPlan {T : Type 0} (old new : FaultPlan) (result : Result T HostError) : Type 0 where
  pub fails : IsErrOf result Failed ↔ (is_struck old ≡ true)
  pub calls : new.calls.items ≡ old.calls.items
  pub made : new.made ≡ one_more old.made
  pub faults : new.faults ≡ (if is_struck old then one_more old.faults else old.faults)
