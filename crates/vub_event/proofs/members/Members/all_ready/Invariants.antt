use Rattle.std.proofs.Common.{◌≡◌, ◌≤◌, ◌++◌, drop, vec_len}
use Rattle.vub_event.specs.HostTable.{reports_of}
use Rattle.vub_event.proofs.members.Members.all_ready.Given as goal

abbrev pub invariant-loop-member : goal.invariant-loop-member
invariant-loop-member l =
    (l.found.items ++ reports_of l.objects (drop l.member-index l.members) ≡ reports_of l.objects l.members)
    × (vec_len l.found ≤ l.most)
