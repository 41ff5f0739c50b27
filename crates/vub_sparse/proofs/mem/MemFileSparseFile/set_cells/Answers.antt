use Rattle.std.proofs.Common.{◌≡◌, true, false, ◌∙◌, ap, sym, arith, ◌≤◌}
use Rattle.vub_sparse.specs.Holes.{cells_of}
use Rattle.vub_sparse.proofs.StoreLemmas.{length_told}
use Rattle.vub_sparse.proofs.CellLemmas.{within_range}
use Rattle.vub_sparse.proofs.mem.MemFileSparseFile.set_cells.Goals as goal

pub returns-in_err-set-clause-inside : goal.returns-in_err-set-clause-inside
returns-in_err-set-clause-inside c = λ goes within.
    let cells : c.args.self.now.cells ≡ cells_of c.self.inside.bytes.items c.self.inside.words.items = sym c.begins.ensures.kept ∙ ap (λ s. s.cells) (sym c.self.view_is) in
    let long = length_told c.self.inside.bytes.items c.self.inside.words.items c.args.self.now.cells cells in
    let part : c.range_within-count.result ≤ c.args.len = rw c.range_within-count.ensures (within_range c.args.keep_size c.len.result c.args.offset c.args.len) in
    let no : false ≡ true = c.in_err-set.ensures.inside (omega (arith, long, within, part)) in cc
