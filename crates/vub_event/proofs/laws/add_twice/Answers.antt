use Rattle.vub_event.specs.HostCalls.{member_for}
use Rattle.vub_event.proofs.AddLaws.{told-added-twice}
use Rattle.vub_event.proofs.laws.add_twice.Goals as goal

pub returns-clause-table : goal.returns-clause-table
returns-clause-table g c =
    told-added-twice c.args.list (member_for c.args.object c.args.set c.args.token) c.add-2.result
    (g.H.Host.held c.args.host.now) (g.H.Host.held c.add.new.self) (g.H.Host.held c.add-2.new.self)
    c.in_ok-add.ensures.table c.add-2.ensures.table
