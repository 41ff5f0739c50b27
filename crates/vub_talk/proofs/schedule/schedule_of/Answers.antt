use Rattle.std.proofs.Common.{◌+◌, ◌-◌, ◌++◌, sym, ap, ◌∙◌, append_assoc}
use Rattle.std.specs.List.{range_with_len, repeat}
use Rattle.vub_talk.proofs.Asked.{repeat-more}
use Rattle.vub_talk.proofs.schedule.schedule_of.Goals as goal

pub loop-preserved : goal.loop-preserved
loop-preserved c =
    let round = range_with_len 0 c.args.parties in
    let rest = repeat (c.args.rounds - (c.loop.counter + 1)) round in
    ap (λ xs. xs ++ rest) c.in_ok-push_round.ensures
    ∙ append_assoc c.loop.turns.items round rest
    ∙ ap (λ xs. c.loop.turns.items ++ xs) (sym (repeat-more c.args.rounds c.loop.counter round c.loop-test.true))
    ∙ c.loop.invariant
