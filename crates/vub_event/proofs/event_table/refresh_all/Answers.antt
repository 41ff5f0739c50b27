use Rattle.std.proofs.Common.{arith}
use Rattle.vub_event.proofs.Readying.{refresh_first, refresh_here, refresh_step, refresh_done}
use Rattle.vub_event.proofs.event_table.refresh_all.Goals as goal

pub loop-i-init : goal.loop-i-init
loop-i-init c = refresh_first _ _ _ _ c.requires

pub refresh-requires : goal.refresh-requires
refresh-requires c = refresh_here _ _ _ _ _ _ _ c.loop-i.invariant c.loop-i-test.true c.index-lists-i.is

pub loop-i-preserved : goal.loop-i-preserved
loop-i-preserved c = refresh_step _ _ _ _ _ _ _ c.loop-i.invariant c.loop-i-test.true c.index-lists-i.is c.refresh.ensures

pub returns : goal.returns
returns c = refresh_done _ _ _ _ _ c.loop-i.invariant (omega arith)
