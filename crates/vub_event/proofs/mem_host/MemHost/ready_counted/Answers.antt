use Rattle.vub_event.proofs.Striking.{struck}
use Rattle.vub_event.proofs.mem_host.MemHost.ready_counted.Goals as goal

pub returns-then-strikes-clause-faults : goal.returns-then-strikes-clause-faults
returns-then-strikes-clause-faults g c =
    struck _ _ _ _ _ c.if-strikes.true c.strikes.ensures.sound c.strikes.ensures.calls c.strikes.ensures.faults c.strikes.ensures.small
