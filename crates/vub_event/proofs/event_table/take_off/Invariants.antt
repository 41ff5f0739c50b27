use Rattle.std.proofs.Common.{◌≡◌}
use Rattle.vub_event.specs.InterestList.{without_member}
use Rattle.vub_event.proofs.Mapping.{changed_to}
use Rattle.vub_event.proofs.event_table.take_off.Given as goal

abbrev pub invariant-loop-members : goal.invariant-loop-members
invariant-loop-members l = l.lists ≡ changed_to (λ members. without_member members l.object) l.members-index l.fn.lists
