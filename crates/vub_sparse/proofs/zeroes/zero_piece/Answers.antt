use Rattle.std.proofs.lemmas.List.{take-replicate}
use Rattle.vub_sparse.proofs.CellLemmas.{all_zeroes}
use Rattle.vub_sparse.proofs.zeroes.zero_piece.Goals as goal

pub returns-clause-zeroes : goal.returns-clause-zeroes
returns-clause-zeroes c = λ k h. all_zeroes 4096 c.args.count k h c.requires

pub returns-clause-piece : goal.returns-clause-piece
returns-clause-piece c = take-replicate c.args.count 4096 0 c.requires
