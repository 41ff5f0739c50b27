use Rattle.std.proofs.Common.{arith}
use Rattle.vub_mem.specs.Track.{with_log}
use Rattle.vub_mem.proofs.track.give_logs.Goals as goal
use Rattle.vub_mem.proofs.Tables.{each_more}

pub loop-region-preserved : goal.loop-region-preserved
loop-region-preserved c = each_more (λ r. with_log c.args.object c.args.offset r) _ _ _ _ (omega arith) c.loop-region.auto.regions c.loop-region.invariant
