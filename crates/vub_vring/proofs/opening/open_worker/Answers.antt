use Rattle.std.proofs.Common.{Option, subst}
use Rattle.vub_base.specs.Told.{Told}
use Rattle.vub_model.specs.Shared.{Shared}
use Rattle.vub_vring.specs.Worker.{MakesList}
use Rattle.vub_vring.proofs.Working.{opened_told, opened_for}
use Rattle.vub_vring.proofs.opening.open_worker.Goals as goal

pub returns-clause-told : goal.returns-clause-told
returns-clause-told g c =
    let shared : g.row.P.Denot → Option (Shared g.row.P-Service.Denot) = λ p. (g.P.Parts.state p).shared in
    let P : Option (Shared g.row.P-Service.Denot) → Type 0 = λ h. Told h (shared c.new_list.new.parts) (MakesList c.in_ok-list.list) in
    opened_for ((g.P.Parts.state c.args.parts.now).constants) c.in-Ok.constants c.args.worker (record { worker = c.args.worker; list = c.in_ok-list.list; bell = c.in_ok-bell.bell; exit = c.exit_of-exit.result }) (shared c.args.parts.now) (shared c.join_bell.new.parts) c.in-Ok.ensures.ok c.exit_of-exit.ensures (opened_told c.in-Ok.constants.queues c.args.worker c.in_ok-list.list c.in_ok-bell.bell c.exit_of-exit.result (shared c.args.parts.now) (shared c.new_list.new.parts) (shared c.join_exit.new.parts) (shared c.new_bell.new.parts) (shared c.join_bell.new.parts) (subst P c.constants.ensures.same.shared c.in_ok-list.ensures.told) c.in_ok-join_exit.ensures.told c.in_ok-bell.ensures.told c.in_ok-join_bell.ensures.told)
