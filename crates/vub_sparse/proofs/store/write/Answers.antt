use Rattle.std.proofs.Common.{arith, length, max, get_or}
use Rattle.vub_sparse.specs.Cells.{Byte}
use Rattle.vub_sparse.specs.Holes.{cells_of}
use Rattle.vub_sparse.proofs.StoreLemmas.{covered_grown, length-cells_of}
use Rattle.vub_sparse.proofs.store.write.Goals as goal

pub returns-clause-ok : goal.returns-clause-ok
returns-clause-ok c =
    let bytes = c.args.bytes.now.items in
    let words = c.args.words.now.items in
    covered_grown c.args.offset (length c.args.piece.now) (λ k. Byte (get_or c.args.piece.now k 0)) (cells_of bytes words)
    (cells_of c.reach.new.bytes.items c.reach.new.words.items) (cells_of c.put.new.bytes.items c.put.new.words.items) (max (length bytes) c.in-Some.end)
    c.requires.some (omega (arith, c.in-Some.ensures, length-cells_of bytes words)) c.in_ok-reach.ensures.cells c.put.ensures.cells
