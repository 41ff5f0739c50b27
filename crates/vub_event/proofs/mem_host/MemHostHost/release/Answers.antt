use Rattle.vub_event.proofs.Orderly.{release-keeps}
use Rattle.vub_event.proofs.mem_host.MemHostHost.release.Goals as goal

pub invariant_of-self : goal.invariant_of-self
invariant_of-self c = record { orderly = release-keeps _ _ _ c.args.self.now.orderly c.release.ensures }
