use Rattle.std.proofs.Common.{arith, length, max}
use Rattle.vub_sparse.specs.Cells.{blank}
use Rattle.vub_sparse.specs.Holes.{cells_of}
use Rattle.vub_sparse.proofs.StoreLemmas.{covered_grown, length-cells_of}
use Rattle.vub_sparse.proofs.store.set.Goals as goal

pub returns-clause-ok : goal.returns-clause-ok
returns-clause-ok c =
    let bytes = c.args.bytes.now.items in
    let words = c.args.words.now.items in
    covered_grown c.args.offset c.args.count (λ k. blank c.args.hole) (cells_of bytes words)
    (cells_of c.reach.new.bytes.items c.reach.new.words.items) (cells_of c.clear.new.bytes.items c.clear.new.words.items) (max (length bytes) c.in-Some.end)
    c.requires.some (omega (arith, c.in-Some.ensures, length-cells_of bytes words)) c.in_ok-reach.ensures.cells c.clear.ensures.cells
