use Rattle.std.proofs.Common.{◌≡◌, ap, sym, arith, length}
use Rattle.vub_sparse.specs.Holes.{cells_of}
use Rattle.vub_sparse.proofs.StoreLemmas.{length_told}
use Rattle.vub_sparse.proofs.mem.MemFileSparseFile.len.Goals as goal

pub returns : goal.returns
returns c =
    let cells : c.args.self.now.cells ≡ cells_of c.self.inside.bytes.items c.self.inside.words.items = ap (λ s. s.cells) (sym c.self.view_is) in
    omega (arith, length_told c.self.inside.bytes.items c.self.inside.words.items c.args.self.now.cells cells, ap length c.as_slice.ensures.value)
