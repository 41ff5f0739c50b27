use Rattle.std.proofs.Common.{◌≡◌, true, false, ◌∙◌, ap, sym, arith}
use Rattle.vub_sparse.specs.Holes.{cells_of}
use Rattle.vub_sparse.proofs.StoreLemmas.{length_told}
use Rattle.vub_sparse.proofs.mem.MemFileSparseFile.write_at.Goals as goal

pub returns-in_err-write-clause-inside : goal.returns-in_err-write-clause-inside
returns-in_err-write-clause-inside c = λ goes within.
    let cells : c.args.self.now.cells ≡ cells_of c.self.inside.bytes.items c.self.inside.words.items = sym c.begins_write.ensures.kept ∙ ap (λ s. s.cells) (sym c.self.view_is) in
    let long = length_told c.self.inside.bytes.items c.self.inside.words.items c.args.self.now.cells cells in
    let no : false ≡ true = c.in_err-write.ensures.inside (omega (arith, long, within)) in cc
