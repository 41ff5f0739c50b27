use Rattle.std.proofs.Common.{arith, rules, ap, subst, ◌≡◌, ◌∙◌, ◌↔◌, Err}
use Rattle.vub_mem.specs.declared.errors.LogError.TheVariants.{GenerationsSpent}
use Rattle.vub_mem.specs.Logs.{log_len, HoldsOf}
use Rattle.vub_mem.proofs.memory.GuestMemory.harvest.Goals as goal
use Rattle.vub_mem.proofs.MarkLaws.{sound_logs}

pub invariant_of-self : goal.invariant_of-self
invariant_of-self g c = sound_logs g.L.DirtyLog.byte_len _ _ _ _ (omega arith) (omega arith) c.self.invariant (λ q. c.harvest_log.ensures.keeps q ∙ ap (λ l. log_len g.L.DirtyLog.byte_len l q) c.deref_mut.ensures.value)

pub returns-clause-spent : goal.returns-clause-spent
returns-clause-spent g c =
    let same : c.deref_mut.result.now ≡ c.args.self.now.logs = search rules in
    subst (λ l. (c.harvest_log.result ≡ Err GenerationsSpent) ↔ HoldsOf (λ log. g.L.HarvestLog.spent log c.args.word) l c.args.object) same c.harvest_log.ensures.spent
