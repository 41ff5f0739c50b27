use Rattle.std.proofs.Common.{arith, ap, ◌∙◌}
use Rattle.vub_sparse.specs.Holes.{cells_of}
use Rattle.vub_sparse.proofs.StoreLemmas.{cut}
use Rattle.vub_sparse.proofs.store.resize.Goals as goal

pub returns-then-length-len-clause-ok : goal.returns-then-length-len-clause-ok
returns-then-length-len-clause-ok c =
    ap (λ b. cells_of b c.args.words.now.items) c.truncate.ensures.items
    ∙ cut c.args.bytes.now.items c.args.words.now.items c.args.length (omega arith)
