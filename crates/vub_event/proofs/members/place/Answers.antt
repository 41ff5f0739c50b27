use Rattle.std.proofs.Common.{rules, of_calls, arith, nat_lt, ◌∙◌, ap}
use Rattle.std.proofs.lemmas.Fn.{always_returns_same}
use Rattle.vub_event.specs.declared.member.Member.{Member}
use Rattle.vub_event.proofs.Searching.{parted, found-at, goes-at, same-at}
use Rattle.vub_event.proofs.members.place.Goals as goal
use Rattle.vub_event.proofs.members.place.Goals.{else-at-members-via-then-at-members+else-members-at, else-at-members-via-else-at-members}

pub returns-then-members-at : goal.returns-then-members-at
returns-then-members-at c =
    let h = c.partition_point-at.ensures.partitioned (λ (m : Member). nat_lt m.object c.args.object) (always_returns_same _ _ _ (λ a r f k. search (rules, of_calls))) (parted _ _ c.requires) in
    (omega arith, found-at _ _ _ _ c.requires (omega arith) c.if-members-at.true h.0)

pub returns-else-at-members : goal.returns-else-at-members
returns-else-at-members c =
    let h = c.partition_point-at.ensures.partitioned (λ (m : Member). nat_lt m.object c.args.object) (always_returns_same _ _ _ (λ a r f k. search (rules, of_calls))) (parted _ _ c.requires) in (
      omega arith,
      goes-at _ _ _ c.requires (omega arith) h.0 h.1
          (elim c.else-at-members.branch [
            | else-at-members-via-then-at-members+else-members-at w ↦ λ lt d is. w.if-members-at.false (ap (λ (m : Member). m.object) (same-at _ _ _ d lt) ∙ is)
            | else-at-members-via-else-at-members w ↦ λ lt d is. absurd (omega arith)
          ]),
    )
