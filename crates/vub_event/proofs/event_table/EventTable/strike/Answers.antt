use Rattle.std.proofs.Common.{arith, ◌≡◌, ◌<◌, ◌∙◌, ap, subst, sym, true, [], length, get_or}
use Rattle.std.proofs.lemmas.Bool.{ltb-true}
use Rattle.vub_event.specs.HostTable.{has_list}
use Rattle.vub_event.specs.InterestList.{without_member}
use Rattle.vub_event.specs.ReadyWords.{IsReadyBut}
use Rattle.vub_event.proofs.Readying.{but_without, but_now, item_is, list_refreshed}
use Rattle.vub_event.proofs.event_table.EventTable.strike.Goals as goal

pub refresh-requires : goal.refresh-requires
refresh-requires c =
    let within : c.args.list < length c.self.inside.lists.items = ltb-true _ _ (subst (λ t. has_list t c.args.list ≡ true) (sym c.self.view_is) c.requires) in
    let was = item_is c.self.inside.lists.items c.args.list _ [] c.index_mut.ensures.value within in
    let now_is : c.remove.new.self ≡ without_member (get_or c.self.inside.lists.items c.args.list []) c.args.object = c.if-not-remove.ensures.after ∙ ap (λ ms. without_member ms c.args.object) was in
    but_now _ _ c.self.inside.lists.items c.args.list _ _ _ _ _ c.deref.ensures.value within c.index.ensures
    (item_is c.self.inside.ready.items c.args.list _ [] c.index_mut-2.ensures.value (omega (arith, c.self.invariant.count)))
    (subst (λ ms. IsReadyBut c.args.object c.self.inside.objects.items ms (get_or c.self.inside.ready.items c.args.list [])) (sym now_is)
    (but_without _ _ _ _ (c.self.invariant.each c.args.list within)))

pub invariant_of-self-2 : goal.invariant_of-self-2
invariant_of-self-2 c =
    let within : c.args.list < length c.self.inside.lists.items = ltb-true _ _ (subst (λ t. has_list t c.args.list ≡ true) (sym c.self.view_is) c.requires) in
    list_refreshed _ _ _ _ _ _ _ _ c.self.invariant c.deref.ensures.value within c.index.ensures c.refresh.ensures
