use Rattle.std.proofs.Common.{◌≡◌, ◌∙◌, ap, rules, arith, length, max, get_or}
use Rattle.std.proofs.lemmas.Grind.{common_steps}
use Rattle.vub_sparse.specs.Holes.{cells_of}
use Rattle.vub_sparse.proofs.StoreLemmas.{resized_same, same_cells_of, grown, length-cells_of}
use Rattle.vub_sparse.proofs.store.reach.Goals as goal

pub returns-then-end-start-clause-cells : goal.returns-then-end-start-clause-cells
returns-then-end-start-clause-cells c =
    resized_same (cells_of c.args.bytes.now.items c.args.words.now.items) (max (length c.args.bytes.now.items) c.args.end) (omega (arith, length-cells_of c.args.bytes.now.items c.args.words.now.items))

pub returns-in_err-extend_words-clause-err : goal.returns-in_err-extend_words-clause-err
returns-in_err-extend_words-clause-err c =
    let same : cells_of c.args.bytes.now.items c.extend_words.new.words.items ≡ cells_of c.args.bytes.now.items c.args.words.now.items =
    same_cells_of c.args.bytes.now.items c.args.words.now.items c.extend_words.new.words.items (λ k h. c.extend_words.ensures.same k (omega (arith, c.requires.covered))) in
    search rules

pub returns-in_err-extend_bytes-clause-err : goal.returns-in_err-extend_bytes-clause-err
returns-in_err-extend_bytes-clause-err c =
    let same : cells_of c.extend_bytes.new.bytes.items c.extend_words.new.words.items ≡ cells_of c.args.bytes.now.items c.args.words.now.items =
    ap (λ b. cells_of b c.extend_words.new.words.items) c.in_err-extend_bytes.ensures.err
    ∙ same_cells_of c.args.bytes.now.items c.args.words.now.items c.extend_words.new.words.items (λ k h. c.extend_words.ensures.same k (omega (arith, c.requires.covered))) in
    search rules

pub returns-clause-cells : goal.returns-clause-cells
returns-clause-cells c =
    grown c.args.bytes.now.items c.extend_bytes.new.bytes.items c.args.words.now.items c.mark.new.words.items c.args.end
    (omega arith) (grind (arith, common_steps))
    (λ k h. c.mark.ensures.before k (omega arith) ∙ c.extend_words.ensures.same k (omega (arith, c.requires.covered)))
    (λ k h. ap (λ b. get_or b k 0) c.in_ok-extend_bytes.ensures.ok ∙ grind (arith, common_steps))
    (λ k from to. c.mark.ensures.inside k (omega arith) to)
