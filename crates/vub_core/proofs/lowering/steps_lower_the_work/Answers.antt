use Rattle.vub_laws.proofs.DrainRuns.{step-lowers}
use Rattle.vub_core.proofs.lowering.steps_lower_the_work.Goals as goal

pub returns : goal.returns
returns o c = λ m g worker l before now old new is. step-lowers m g worker old before l (record { shared = new; phase = now }) is.0 is.1
