use Rattle.std.proofs.Common.{get_or, false}
use Rattle.vub_sparse.proofs.StoreLemmas.{put_cells}
use Rattle.vub_sparse.proofs.store.put.Goals as goal

pub returns-clause-cells : goal.returns-clause-cells
returns-clause-cells c =
    put_cells c.args.bytes.now.items c.copy.new.bytes.items c.args.words.now.items c.mark.new.words.items c.args.offset _ (λ k. get_or c.args.piece.now k 0) false c.copy.ensures c.mark.ensures c.requires.inside
