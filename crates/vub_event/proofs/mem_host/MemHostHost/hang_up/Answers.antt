use Rattle.vub_event.proofs.Orderly.{hang_up-keeps}
use Rattle.vub_event.proofs.mem_host.MemHostHost.hang_up.Goals as goal

pub invariant_of-self : goal.invariant_of-self
invariant_of-self c = record { orderly = hang_up-keeps _ _ _ c.args.self.now.orderly c.hang_up.ensures }
