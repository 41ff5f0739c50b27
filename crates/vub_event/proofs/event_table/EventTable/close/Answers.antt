use Rattle.std.proofs.Common.{arith, ◌≡◌, ◌∙◌, ap, sym, map, set, None, List}
use Rattle.std.proofs.lemmas.List.{with_items_is}
use Rattle.vub_event.specs.declared.member.Member.{Member}
use Rattle.vub_event.specs.declared.event_table.EventTable.TheInside.{Inside}
use Rattle.vub_event.specs.InterestList.{without_member}
use Rattle.vub_event.proofs.Readying.{closed, set_past}
use Rattle.vub_event.proofs.event_table.EventTable.close.Goals as goal
use Rattle.vub_event.proofs.event_table.EventTable.close.Goals.{then-object-len, else-object-len}

pub refresh_all-requires : goal.refresh_all-requires
refresh_all-requires c =
    let f : List Member → List Member = λ members. without_member members c.args.object in
    let objects : c.if-object-len.self-inside.objects.items ≡ set c.self.inside.objects.items c.args.object None =
    elim c.if-object-len.branch [
      | then-object-len w ↦ ap (λ (i : Inside). i.objects.items) w.self-inside-is
      | else-object-len w ↦ ap (λ (i : Inside). i.objects.items) w.self-inside-is ∙ sym (set_past c.self.inside.objects.items c.args.object None (omega (arith, w.if-object-len.false)))
    ] in
    let lists : c.if-object-len.self-inside.lists ≡ c.self.inside.lists =
    elim c.if-object-len.branch [
      | then-object-len w ↦ ap (λ (i : Inside). i.lists) w.self-inside-is
      | else-object-len w ↦ ap (λ (i : Inside). i.lists) w.self-inside-is
    ] in
    let ready : c.if-object-len.self-inside.ready.items ≡ c.self.inside.ready.items =
    elim c.if-object-len.branch [
      | then-object-len w ↦ ap (λ (i : Inside). i.ready.items) w.self-inside-is
      | else-object-len w ↦ ap (λ (i : Inside). i.ready.items) w.self-inside-is
    ] in
    let all : c.deref-2.result.now ≡ map f c.self.inside.lists.items =
    c.deref-2.ensures.value ∙ with_items_is c.if-object-len.self-inside.lists c.take_off.new.lists (omega (arith, c.take_off.auto.lists, c.deref_mut.ensures.len)) ∙ c.take_off.ensures ∙ ap (λ ms. map f ms) (c.deref_mut.ensures.value ∙ ap (λ v. v.items) lists) in
    rw (c.deref.ensures.value, objects, all, c.deref_mut-2.ensures.value, ready) (closed _ _ _ _ _ c.self.invariant)
