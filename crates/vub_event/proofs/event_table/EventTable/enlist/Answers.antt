use Rattle.std.proofs.Common.{arith, ℕ, ◌≡◌, ◌<◌, ◌∙◌, ap, subst, sym, true, [], length, get_or}
use Rattle.std.proofs.lemmas.Bool.{ltb-true, and_parts, cond-true, cond-false}
use Rattle.std.proofs.lemmas.List.{set-set}
use Rattle.vub_event.specs.HostTable.{has_list, has_event, HostTable}
use Rattle.vub_event.specs.HostCalls.{has_both}
use Rattle.vub_event.specs.InterestList.{with_member}
use Rattle.vub_event.specs.ReadyWords.{IsReadyBut, IsReadyList}
use Rattle.vub_event.proofs.Readying.{but_added, but_now, item_is, item_set, list_refreshed, list_set, words_set, roomed, made_object}
use Rattle.vub_event.proofs.event_table.EventTable.enlist.Goals as goal

record Both (t : HostTable) (l o : ℕ) : Type 0 where
  list : l < length t.lists
  object : o < length t.objects

both : (t : HostTable) (l o : ℕ) → has_both t l o ≡ true → Both t l o
both t l o h =
    let parts = and_parts (has_list t l) (has_event t o) h in
    record { list = ltb-true l (length t.lists) parts.0; object = made_object t.objects o parts.1 }

pub invariant_of-self : goal.invariant_of-self
invariant_of-self c =
    let there = both (record { objects = c.self.inside.objects.items; lists = c.self.inside.lists.items }) c.args.list c.args.member.object (subst (λ t. has_both t c.args.list c.args.member.object ≡ true) (sym c.self.view_is) c.requires) in
    words_set _ _ _ _ _ c.self.invariant there.list (roomed _ _ _ _ _ _ _ c.self.invariant there.list there.object c.index_mut.ensures.value c.make_room.ensures.makes)

pub invariant_of-self-in_err-add : goal.invariant_of-self-in_err-add
invariant_of-self-in_err-add c =
    let there = both (record { objects = c.self.inside.objects.items; lists = c.self.inside.lists.items }) c.args.list c.args.member.object (subst (λ t. has_both t c.args.list c.args.member.object ≡ true) (sym c.self.view_is) c.requires) in
    let same : c.add.new.self ≡ get_or c.self.inside.lists.items c.args.list [] = c.in_err-add.ensures.err ∙ item_is c.self.inside.lists.items c.args.list _ [] c.index_mut-2.ensures.value there.list in
    list_set _ _ _ _ _ _ c.self.invariant
    (subst (λ ms. IsReadyList c.self.inside.objects.items ms c.make_room.new.self) (sym same)
    (roomed _ _ _ _ _ _ _ c.self.invariant there.list there.object c.index_mut.ensures.value c.make_room.ensures.makes))

pub invariant_of-self-then-not-branch : goal.invariant_of-self-then-not-branch
invariant_of-self-then-not-branch c =
    let there = both (record { objects = c.self.inside.objects.items; lists = c.self.inside.lists.items }) c.args.list c.args.member.object (subst (λ t. has_both t c.args.list c.args.member.object ≡ true) (sym c.self.view_is) c.requires) in
    let same : c.add.new.self ≡ get_or c.self.inside.lists.items c.args.list [] =
    c.in_ok-add.ensures.after ∙ cond-false _ _ _ c.if-not-branch.true ∙ item_is c.self.inside.lists.items c.args.list _ [] c.index_mut-2.ensures.value there.list in
    list_set _ _ _ _ _ _ c.self.invariant
    (subst (λ ms. IsReadyList c.self.inside.objects.items ms c.make_room.new.self) (sym same)
    (roomed _ _ _ _ _ _ _ c.self.invariant there.list there.object c.index_mut.ensures.value c.make_room.ensures.makes))

pub refresh-requires : goal.refresh-requires
refresh-requires c =
    let there = both (record { objects = c.self.inside.objects.items; lists = c.self.inside.lists.items }) c.args.list c.args.member.object (subst (λ t. has_both t c.args.list c.args.member.object ≡ true) (sym c.self.view_is) c.requires) in
    let was = item_is c.self.inside.lists.items c.args.list _ [] c.index_mut-2.ensures.value there.list in
    let now_is : c.add.new.self ≡ with_member (get_or c.self.inside.lists.items c.args.list []) c.args.member =
    c.in_ok-add.ensures.after ∙ cond-true _ _ _ c.if-not-branch.false ∙ ap (λ ms. with_member ms c.args.member) was in
    let room : IsReadyList c.self.inside.objects.items (get_or c.self.inside.lists.items c.args.list []) c.make_room.new.self =
    roomed _ _ _ _ _ _ _ c.self.invariant there.list there.object c.index_mut.ensures.value c.make_room.ensures.makes in
    but_now _ _ c.self.inside.lists.items c.args.list _ _ _ c.make_room.new.self _ c.deref.ensures.value there.list c.index.ensures
    (item_set c.self.inside.ready.items c.args.list _ _ c.index_mut-3.ensures.value (omega (arith, c.self.invariant.count, there.list)))
    (subst (λ ms. IsReadyBut c.args.member.object c.self.inside.objects.items ms c.make_room.new.self) (sym now_is)
    (but_added _ _ _ _ room c.in_ok-make_room.ensures.ok there.object))

pub invariant_of-self-2 : goal.invariant_of-self-2
invariant_of-self-2 c =
    let there = both (record { objects = c.self.inside.objects.items; lists = c.self.inside.lists.items }) c.args.list c.args.member.object (subst (λ t. has_both t c.args.list c.args.member.object ≡ true) (sym c.self.view_is) c.requires) in
    rw (set-set c.self.inside.ready.items c.args.list c.make_room.new.self c.refresh.new.words)
    (list_refreshed _ _ _ _ _ _ _ _ c.self.invariant c.deref.ensures.value there.list c.index.ensures c.refresh.ensures)
