-- A plan that asks nothing of the wiring or of the rings is the plan over each wiring and for all that is known of them.
use Rattle.std.proofs.Common.{List, Result, Ok, Err, IfOk}
use Rattle.vub_proto.specs.declared.request.Request.{Request}
use Rattle.vub_model.specs.declared.session.Session.{Session}
use Rattle.vub_model.specs.declared.wiring.Known.{Known}
use Rattle.vub_model.specs.Wiring.{Wiring}
use Rattle.vub_plan.specs.Halves.{Begun, IsPlanOf, IsSessionPlan, IsWiredPlan}

pub of_session : {E : Type 0} (g : Wiring) (known : List Known) (s : Session) (request : Request) (result : Result Begun E) → IfOk result (IsSessionPlan s request) → IfOk result (IsPlanOf g known s request)
of_session g known s request (Ok b) is = is g known
of_session g known s request (Err e) is = tt

pub of_wired : {E : Type 0} (g : Wiring) (known : List Known) (s : Session) (request : Request) (result : Result Begun E) → IfOk result (IsWiredPlan g s request) → IfOk result (IsPlanOf g known s request)
of_wired g known s request (Ok b) is = is known
of_wired g known s request (Err e) is = tt
