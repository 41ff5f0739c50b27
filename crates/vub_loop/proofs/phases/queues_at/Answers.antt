use Rattle.std.proofs.Common.{sym, ◌∙◌}
use Rattle.vub_loop.proofs.Numbered.{kept-more, passed-more, done-all, split}
use Rattle.vub_loop.proofs.phases.queues_at.Goals as goal

pub loop-number-preserved-then-number-queues : goal.loop-number-preserved-then-number-queues
loop-number-preserved-then-number-queues c =
    let at = split c.loop-number.rest c.take_first.new.self c.in-Some.number (sym c.in-Some.is ∙ c.take_first.ensures.first) c.take_first.ensures.rest in
    kept-more _ _ _ _ _ _ _ c.loop-number.invariant c.take_first.ensures.ascends at c.if-number-queues.true

pub loop-number-preserved : goal.loop-number-preserved
loop-number-preserved c =
    let at = split c.loop-number.rest c.take_first.new.self c.in-Some.number (sym c.in-Some.is ∙ c.take_first.ensures.first) c.take_first.ensures.rest in
    passed-more _ _ _ _ _ _ _ c.loop-number.invariant c.take_first.ensures.ascends at c.if-number-queues.false

pub returns : goal.returns
returns c =
    c.from_vec.ensures ∙ c.truncate.ensures.items ∙ done-all _ _ _ _ _ c.take_first.result c.loop-number.invariant c.take_first.ensures.first c.in_default.not-Some
