use Rattle.vub_event.proofs.Orderly.{add-keeps}
use Rattle.vub_event.proofs.Striking.{struck}
use Rattle.vub_event.proofs.mem_host.MemHostHost.add.Goals as goal

pub returns-then-strikes-clause-faults : goal.returns-then-strikes-clause-faults
returns-then-strikes-clause-faults c =
    struck _ _ _ _ _ c.if-strikes.true c.strikes.ensures.sound c.strikes.ensures.calls c.strikes.ensures.faults c.strikes.ensures.small

pub invariant_of-self-2 : goal.invariant_of-self-2
invariant_of-self-2 c = record { orderly = add-keeps _ _ _ _ _ c.args.self.now.orderly c.add.ensures.table }
