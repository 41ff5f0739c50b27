use Rattle.vub_mem.proofs.memory.GuestMemory.put_log.Goals as goal
use Rattle.vub_mem.proofs.MarkLaws.{logged_push}

pub invariant_of-self : goal.invariant_of-self
invariant_of-self g c = record { guest = c.self.invariant.guest; logged = logged_push g.L.DirtyLog.byte_len _ _ _ _ _ c.self.invariant.logged c.push.ensures.items }
