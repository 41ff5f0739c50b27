use Rattle.std.proofs.Common.{sym, ap, subst, rules, ◌≡◌, ◌∙◌, Ok, Some, position}
use Rattle.vub_mem.specs.Sound.{IsSoundMemory}
use Rattle.vub_mem.specs.Table.{is_region, remove_answer}
use Rattle.vub_mem.proofs.memory.GuestMemory.remove_region.Goals as goal
use Rattle.vub_mem.proofs.Tables.{sound_remove, removed_is, removed_none}

pub invariant_of-self : goal.invariant_of-self
invariant_of-self g c = subst (λ rs. IsSoundMemory g.L.DirtyLog.byte_len (record { guest = record { regions = rs; contents = c.self.inside.contents }; logs = c.self.inside.logs.items })) (sym c.remove.ensures.items) (sound_remove g.L.DirtyLog.byte_len _ _ _ _ c.self.invariant)

pub returns-in-None-clause-answer : goal.returns-in-None-clause-answer
returns-in-None-clause-answer g c =
    let same : c.deref.result.now ≡ c.args.self.now.guest.regions = search rules in
    removed_none c.deref.result.now c.args.start c.args.len c.in-None.ensures ∙ ap (λ l. remove_answer l c.args.start c.args.len) same

pub returns-in-Some-clause-answer : goal.returns-in-Some-clause-answer
returns-in-Some-clause-answer g c =
    let same : c.self.inside.regions.items ≡ c.args.self.now.guest.regions = search rules in
    let place : Some c.in-Some.place ≡ position (λ r. is_region c.args.start c.args.len r) c.self.inside.regions.items = search rules in
    ap (λ r. Ok r) c.remove.ensures.value ∙ removed_is c.self.inside.regions.items c.args.start c.args.len c.in-Some.place c.remove.result place ∙ ap (λ l. remove_answer l c.args.start c.args.len) same
