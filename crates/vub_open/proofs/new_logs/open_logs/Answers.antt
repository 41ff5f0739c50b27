use Rattle.std.proofs.Common.{rules}
use Rattle.vub_open.proofs.LogsFrom.{logs_more}
use Rattle.vub_open.proofs.new_logs.open_logs.Goals as goal

pub loop-number-preserved : goal.loop-number-preserved
loop-number-preserved c = record {
  below = search rules;
  logs = logs_more _ _ _ _ _ c.loop-number-test.true c.index-objects-number.is c.loop-number.invariant.logs c.in_ok-put_log.ensures.ok;
  guest = search rules;
}
