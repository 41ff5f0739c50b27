use Rattle.std.proofs.Common.{arith, ◌≡◌, ◌<◌, ◌∙◌, ap, refl, subst, rules, List, [], Option, length, slice_get}
use Rattle.vub_event.specs.declared.event.Event.{Event}
use Rattle.vub_event.specs.declared.member.Member.{Member}
use Rattle.vub_event.specs.HostTable.{HostTable, members_at, reports_of, IsLeastOf}
use Rattle.vub_event.proofs.Readying.{item_is}
use Rattle.vub_event.proofs.event_table.EventTable.ready_counted.Goals as goal

pub returns-clause-table : goal.returns-clause-table
returns-clause-table g c =
    let within : c.args.list < length c.self.inside.lists.items = omega (arith, c.if-place-len.false) in
    let same : c.index.result.now ≡ members_at c.args.self.now c.args.list =
    item_is c.self.inside.lists.items c.args.list _ [] c.index.ensures within ∙ ap (λ (t : HostTable). members_at t c.args.list) c.self.view_is in
    let objects : c.deref.result.now ≡ c.args.self.now.objects = search rules in
    let P : List Member → Type 0 = λ ms. IsLeastOf (reports_of c.deref.result.now ms) c.first_ready-first.result × (c.first_ready-first.result ≡ slice_get (reports_of c.deref.result.now ms) 0) in
    let Q : List (Option Event) → Type 0 = λ os. IsLeastOf (reports_of os (members_at c.args.self.now c.args.list)) c.first_ready-first.result × (c.first_ready-first.result ≡ slice_get (reports_of os (members_at c.args.self.now c.args.list)) 0) in
    (search rules, subst Q objects (subst P same (c.first_ready-first.ensures.least, c.first_ready-first.ensures.first)), refl)
