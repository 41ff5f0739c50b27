use Rattle.std.proofs.Common.{arith, ap, ◌∙◌}
use Rattle.vub_mem.specs.Logs.{log_len}
use Rattle.vub_mem.proofs.memory.GuestMemory.load.Goals as goal
use Rattle.vub_mem.proofs.MarkLaws.{sound_logs}

pub invariant_of-self : goal.invariant_of-self
invariant_of-self g c = sound_logs g.L.DirtyLog.byte_len _ _ _ _ (omega arith) (omega arith) c.self.invariant (λ q. c.load_log.ensures.keeps q ∙ ap (λ l. log_len g.L.DirtyLog.byte_len l q) c.deref_mut.ensures.value)
