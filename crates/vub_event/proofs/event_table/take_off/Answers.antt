use Rattle.std.proofs.Common.{◌≡◌, ◌∙◌, List}
use Rattle.vub_event.specs.declared.member.Member.{Member}
use Rattle.vub_event.specs.InterestList.{without_member}
use Rattle.vub_event.proofs.Mapping.{changed_to, changed-more, changed-all}
use Rattle.vub_event.proofs.event_table.take_off.Goals as goal

pub loop-members-preserved : goal.loop-members-preserved
loop-members-preserved c =
    let f : List Member → List Member = λ members. without_member members c.args.object in
    let so_far : c.loop-members.lists ≡ changed_to f c.loop-members.members-index c.args.lists.now = c.loop-members.invariant in
    rw (c.remove-removed.ensures.without, so_far) (changed-more f _ _ _ c.loop-members-test.true)

pub returns : goal.returns
returns c =
    let f : List Member → List Member = λ members. without_member members c.args.object in
    c.loop-members.invariant ∙ changed-all f _ _ c.loop-members-test.false
