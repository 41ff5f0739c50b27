use Rattle.std.proofs.Common.{◌≡◌, ap, sym, arith}
use Rattle.vub_sparse.specs.Holes.{cells_of}
use Rattle.vub_sparse.proofs.StoreLemmas.{length_told, hole_told}
use Rattle.vub_sparse.proofs.mem.MemFileSparseFile.hole_at.Goals as goal

pub is_hole-requires : goal.is_hole-requires
is_hole-requires c =
    let cells : c.args.self.now.cells ≡ cells_of c.self.inside.bytes.items c.self.inside.words.items = ap (λ s. s.cells) (sym c.self.view_is) in
    let long = length_told c.self.inside.bytes.items c.self.inside.words.items c.args.self.now.cells cells in
    rw c.as_slice.ensures.value (omega (arith, long, c.self.invariant.covered, c.len.ensures))

pub returns-then-place-len : goal.returns-then-place-len
returns-then-place-len c =
    let cells : c.args.self.now.cells ≡ cells_of c.self.inside.bytes.items c.self.inside.words.items = ap (λ s. s.cells) (sym c.self.view_is) in
    hole_told c.self.inside.bytes.items c.self.inside.words.items c.args.self.now.cells c.args.place c.is_hole.result cells (omega (arith, c.len.ensures))
    (rw c.as_slice.ensures.value at c.is_hole.ensures)
