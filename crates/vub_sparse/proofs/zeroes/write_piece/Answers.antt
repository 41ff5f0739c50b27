use Rattle.vub_sparse.proofs.CellLemmas.{piece_written}
use Rattle.vub_sparse.proofs.zeroes.write_piece.Goals as goal

pub returns-clause-ok : goal.returns-clause-ok
returns-clause-ok g c =
    piece_written c.write_at.result _ _ c.args.offset c.zero_piece-piece.result.now (rw c.zero_piece-piece.ensures.long c.zero_piece-piece.ensures.zeroes) c.write_at.ensures.bound c.write_at.ensures.ok
