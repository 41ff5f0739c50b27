use Rattle.std.proofs.Common.{rules}
use Rattle.vub_event.proofs.WriteLaws.{told-written-then, told-write-refused}
use Rattle.vub_event.proofs.laws.write_then_read.Goals as goal

pub returns-in_err-signal-clause-table : goal.returns-in_err-signal-clause-table
returns-in_err-signal-clause-table g c =
    let refused = told-write-refused c.args.object c.args.value _ _ _ c.in_err-signal.ensures.refusals c.in_err-signal.ensures.table in search rules

pub returns-clause-table : goal.returns-clause-table
returns-clause-table g c =
    told-written-then c.args.object c.args.value c.consume.result
    (g.H.Host.held c.args.host.now) (g.H.Host.held c.signal.new.self) (g.H.Host.held c.consume.new.self)
    c.consume.ensures.refusals c.in_ok-signal.ensures.table c.consume.ensures.table
