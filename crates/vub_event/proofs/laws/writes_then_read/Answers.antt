use Rattle.std.proofs.Common.{Ok, get_or, rules}
use Rattle.vub_event.proofs.Striking.{faults-begin, faults-then}
use Rattle.vub_event.proofs.WriteLaws.{told-begin, told-next, told-all-read, told-all-stopped}
use Rattle.vub_event.proofs.laws.writes_then_read.Goals as goal

pub loop-value-init : goal.loop-value-init
loop-value-init g c = record {
  faults = faults-begin _ _;
  table = told-begin c.args.object c.args.values.now (g.H.Host.held c.args.host.now);
}

pub loop-value-preserved : goal.loop-value-preserved
loop-value-preserved g c = record {
  faults = faults-then _ _ _ _ _ _ (Ok tt) (Ok tt) c.loop-value.invariant.faults c.in_ok-write_one.ensures.faults;
  table = told-next c.args.object c.args.values.now c.loop-value.value-index 0
      (g.H.Host.held c.args.host.now) (g.H.Host.held c.loop-value.host) (g.H.Host.held c.write_one.new.host)
      c.loop-value-test.true c.loop-value.invariant.table c.in_ok-write_one.ensures.table;
}

pub returns-clause-table : goal.returns-clause-table
returns-clause-table g c =
    told-all-read c.args.object c.args.values.now c.loop-value.value-index c.consume.result
    (g.H.Host.held c.args.host.now) (g.H.Host.held c.loop-value.host) (g.H.Host.held c.consume.new.self)
    c.loop-value-test.false c.consume.ensures.refusals c.loop-value.invariant.table c.consume.ensures.table

pub returns-in_err-write_one-clause-table : goal.returns-in_err-write_one-clause-table
returns-in_err-write_one-clause-table g c =
    let stopped =
    told-all-stopped c.args.object c.args.values.now c.loop-value.value-index (get_or c.args.values.now c.loop-value.value-index 0) c.in_err-write_one.field-0.0
    (g.H.Host.held c.args.host.now) (g.H.Host.held c.loop-value.host) (g.H.Host.held c.write_one.new.host)
    c.loop-value.invariant.table c.in_err-write_one.ensures.table in
    search rules
