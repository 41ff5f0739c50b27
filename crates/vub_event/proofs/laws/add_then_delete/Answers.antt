use Rattle.vub_event.specs.HostCalls.{member_for}
use Rattle.vub_event.proofs.AddLaws.{told-added-then}
use Rattle.vub_event.proofs.laws.add_then_delete.Goals as goal

pub returns-clause-table : goal.returns-clause-table
returns-clause-table g c =
    told-added-then c.args.list (member_for c.args.object c.args.set c.args.token) c.delete.result
    (g.H.Host.held c.args.host.now) (g.H.Host.held c.add.new.self) (g.H.Host.held c.delete.new.self)
    c.delete.ensures.refusals c.in_ok-add.ensures.table c.delete.ensures.table
