use Rattle.std.proofs.Common.{arith, rules, subst, sym, ◌≡◌, true, length}
use Rattle.std.specs.List.{AllByRecursion}
use Rattle.vub_mem.specs.Place.{covers}
use Rattle.vub_mem.specs.Sound.{IsLogged}
use Rattle.vub_mem.proofs.memory.GuestMemory.write_on.Goals as goal
use Rattle.vub_mem.proofs.Ranges.{covered_ends}
use Rattle.vub_mem.proofs.MarkLaws.{sound_written}

pub write_from-requires-clause-bound : goal.write_from-requires-clause-bound
write_from-requires-clause-bound g c =
    let covered : covers c.self.inside.regions.items c.args.addr (length c.args.bytes.now) ≡ true = search rules in
    covered_ends _ _ _ c.self.invariant.guest.bounded covered c.ranges.addr.fits

pub mark_from-requires-clause-logged : goal.mark_from-requires-clause-logged
mark_from-requires-clause-logged g c =
    subst (λ ss. AllByRecursion (λ r. IsLogged g.L.DirtyLog.byte_len ss r) c.deref-2.result.now) (sym c.deref_mut.ensures.value)
    (subst (λ rs. AllByRecursion (λ r. IsLogged g.L.DirtyLog.byte_len c.self.inside.logs.items r) rs) (sym c.deref-2.ensures.value) c.self.invariant.logged)

pub mark_from-requires-clause-ends : goal.mark_from-requires-clause-ends
mark_from-requires-clause-ends g c =
    let covered : covers c.self.inside.regions.items c.args.addr (length c.args.bytes.now) ≡ true = search rules in
    covered_ends _ _ _ c.self.invariant.guest.bounded covered c.ranges.addr.fits

pub invariant_of-self : goal.invariant_of-self
invariant_of-self g c = sound_written g.L.DirtyLog.byte_len _ _ _ _ _ _ _ c.deref.ensures.value c.deref-2.ensures.value (omega arith) (omega arith) c.write_from.ensures.sound c.mark_from.ensures.logged
