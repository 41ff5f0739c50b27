use Rattle.std.proofs.Common.{rules, not, nat_eq, sym, ◌∙◌, ap, subst, ◌++◌}
use Rattle.std.proofs.lemmas.Fn.{filter_same}
use Rattle.vub_model.specs.Shared.{without_number}
use Rattle.vub_ring.specs.Pending.{numbers_of, AscendsFrom}
use Rattle.vub_ring.proofs.Words.{number-leaves, number-leaves-above, ascends-without}
use Rattle.vub_ring.proofs.pending.Pending.remove.Goals as goal

pub returns-then-number-lt-WORD : goal.returns-then-number-lt-WORD
returns-then-number-lt-WORD c =
    sym (number-leaves _ _ _ _ c.with_bit-self-inside.ensures c.if-number-lt-WORD.true c.self.invariant) ∙ ap (λ ns. without_number ns c.args.number) c.self.view_is

pub invariant_of-self-else-number-lt-WORD : goal.invariant_of-self-else-number-lt-WORD
invariant_of-self-else-number-lt-WORD c =
    let kept = filter_same _ (λ m. not (nat_eq m c.args.number)) _ (λ x b f' k. search rules) _ _ c.retain.ensures.filtered in
    subst (AscendsFrom 64) (sym kept) (ascends-without 64 _ _ c.self.invariant)

pub returns-else-number-lt-WORD : goal.returns-else-number-lt-WORD
returns-else-number-lt-WORD c =
    let kept = filter_same _ (λ m. not (nat_eq m c.args.number)) _ (λ x b f' k. search rules) _ _ c.retain.ensures.filtered in
    ap (λ ns. numbers_of c.self.inside.word ++ ns) kept ∙ sym (number-leaves-above _ c.args.number _ c.if-number-lt-WORD.false) ∙ ap (λ ns. without_number ns c.args.number) c.self.view_is
