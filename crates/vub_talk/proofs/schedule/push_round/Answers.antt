use Rattle.std.proofs.Common.{◌+◌, ◌-◌, ◌++◌, [], ◌∷◌, sym, ap, ◌∙◌, append_assoc}
use Rattle.std.specs.List.{range_with_len}
use Rattle.vub_talk.proofs.Asked.{range-next}
use Rattle.vub_talk.proofs.schedule.push_round.Goals as goal

pub loop-party-preserved : goal.loop-party-preserved
loop-party-preserved c =
    let rest = range_with_len (c.loop-party.party + 1) (c.args.parties - (c.loop-party.party + 1)) in
    ap (λ xs. xs ++ rest) c.in_ok-push.ensures.items
    ∙ append_assoc c.loop-party.turns.items (c.loop-party.party ∷ []) rest
    ∙ ap (λ xs. c.loop-party.turns.items ++ xs) (sym (range-next c.args.parties c.loop-party.party c.loop-party-test.true))
    ∙ c.loop-party.invariant
