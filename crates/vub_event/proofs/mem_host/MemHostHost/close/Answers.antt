use Rattle.vub_event.proofs.Orderly.{close-keeps}
use Rattle.vub_event.proofs.mem_host.MemHostHost.close.Goals as goal

pub invariant_of-self : goal.invariant_of-self
invariant_of-self c = record { orderly = close-keeps _ _ _ c.args.self.now.orderly c.close.ensures }
