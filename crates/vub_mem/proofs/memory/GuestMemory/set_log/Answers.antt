use Rattle.std.proofs.Common.{arith, subst}
use Rattle.std.specs.List.{AllByRecursion}
use Rattle.vub_mem.specs.Track.{IsTrackable}
use Rattle.vub_mem.proofs.memory.GuestMemory.set_log.Goals as goal
use Rattle.vub_mem.proofs.Tables.{sound_given}

pub invariant_of-self : goal.invariant_of-self
invariant_of-self g c =
    let trackable : AllByRecursion (λ r. IsTrackable c.args.size r) c.self.inside.regions.items = subst (λ l. AllByRecursion (λ r. IsTrackable c.args.size r) l) c.deref.ensures.value c.in-None.ensures.trackable in
    sound_given g.L.DirtyLog.byte_len _ _ _ _ _ _ _ _ _ _ (omega arith) (omega arith) c.deref_mut.ensures.value c.deref-2.ensures.value c.give_logs.ensures c.self.invariant trackable c.in-None.ensures.within c.in-None.ensures.bound
