use Rattle.std.proofs.Common.{ap, sym, ◌∙◌}
use Rattle.vub_model.specs.Shared.{with_number}
use Rattle.vub_ring.proofs.Words.{number-goes-in, ascends-called, goes-called}
use Rattle.vub_ring.proofs.pending.Pending.insert.Goals as goal

pub returns-then-number-lt-WORD-clause-ok : goal.returns-then-number-lt-WORD-clause-ok
returns-then-number-lt-WORD-clause-ok c =
    sym (number-goes-in _ _ _ _ c.with_bit-self-inside.ensures c.if-number-lt-WORD.true c.self.invariant) ∙ ap (λ ns. with_number ns c.args.number) c.self.view_is

pub invariant_of-self-2 : goal.invariant_of-self-2
invariant_of-self-2 c = ascends-called _ c.args.number _ _ c.insert_number.ensures.ok c.insert_number.ensures.err c.if-number-lt-WORD.false c.self.invariant

pub returns-clause-ok : goal.returns-clause-ok
returns-clause-ok c = goes-called _ _ c.args.number _ _ _ c.insert_number.ensures.ok c.if-number-lt-WORD.false c.self.view_is
