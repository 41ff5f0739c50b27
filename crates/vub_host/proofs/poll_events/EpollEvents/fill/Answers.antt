use Rattle.std.proofs.Common.{rules}
use Rattle.vub_host.proofs.Waiting.{polled}
use Rattle.vub_host.proofs.poll_events.EpollEvents.fill.Goals as goal

pub returns-clause-table : goal.returns-clause-table
returns-clause-table g c =
    polled {T = Unit {0}} (λ _. c.hold.new.self) tt c.args.list c.in_ok-ready.ready (g.H.Host.held c.args.host.now) (g.H.Host.held c.ready_many.new.self)
    (search rules) c.in_ok-ready.ensures.table
