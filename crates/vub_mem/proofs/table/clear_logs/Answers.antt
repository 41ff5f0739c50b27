use Rattle.std.proofs.Common.{arith}
use Rattle.vub_mem.specs.Table.{unlogged}
use Rattle.vub_mem.proofs.table.clear_logs.Goals as goal
use Rattle.vub_mem.proofs.Tables.{each_more}

pub loop-region-preserved : goal.loop-region-preserved
loop-region-preserved c = each_more unlogged _ _ _ _ (omega arith) c.loop-region.auto.regions c.loop-region.invariant
