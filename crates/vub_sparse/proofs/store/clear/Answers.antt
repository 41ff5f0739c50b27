use Rattle.vub_sparse.proofs.StoreLemmas.{put_cells}
use Rattle.vub_sparse.proofs.store.clear.Goals as goal

pub returns-clause-cells : goal.returns-clause-cells
returns-clause-cells c =
    put_cells c.args.bytes.now.items c.zero.new.bytes.items c.args.words.now.items c.mark.new.words.items c.args.offset c.args.count (λ k. 0) c.args.hole c.zero.ensures c.mark.ensures c.requires.inside
