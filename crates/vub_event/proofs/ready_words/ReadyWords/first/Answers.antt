use Rattle.std.proofs.Common.{arith}
use Rattle.vub_event.proofs.Words.{first_word, first_bit, found_fits}
use Rattle.vub_event.proofs.ready_words.ReadyWords.first.Goals as goal

pub word-objects-requires : goal.word-objects-requires
word-objects-requires g c =
    (first_word c.self.inside.words c.self.inside.summary _ _ c.self.invariant c.loop-i.invariant.clear c.word-summary.ensures.word (omega (arith, c.if-summary-ne0.true)) c.word-summary.type_inv).within

pub overflow_add-result : goal.overflow_add-result
overflow_add-result g c =
    let small =
    found_fits c.self.inside.words c.self.inside.summary _ _ _ _
    (first_word c.self.inside.words c.self.inside.summary _ _ c.self.invariant c.loop-i.invariant.clear c.word-summary.ensures.word (omega (arith, c.if-summary-ne0.true)) c.word-summary.type_inv)
    c.self.invariant c.word-objects.ensures.word c.word-objects.type_inv in
    omega (arith, small)

pub returns-then-summary-ne0-clause-least : goal.returns-then-summary-ne0-clause-least
returns-then-summary-ne0-clause-least g c =
    rw (← c.self.view_is)
    (first_bit c.self.inside.words c.self.inside.summary _ _ _ _
    (first_word c.self.inside.words c.self.inside.summary _ _ c.self.invariant c.loop-i.invariant.clear c.word-summary.ensures.word (omega (arith, c.if-summary-ne0.true)) c.word-summary.type_inv)
    c.word-objects.ensures.word c.word-objects.type_inv)
