use Rattle.std.proofs.Common.{◌≡◌, ◌∙◌, ap, sym, take, drop}
use Rattle.vub_sparse.specs.Holes.{cells_of}
use Rattle.vub_sparse.proofs.StoreLemmas.{read_told}
use Rattle.vub_sparse.proofs.mem.MemFileSparseFile.read_at.Goals as goal

pub returns-clause-bytes : goal.returns-clause-bytes
returns-clause-bytes c =
    let cells : c.args.self.now.cells ≡ cells_of c.self.inside.bytes.items c.self.inside.words.items = sym c.begins.ensures.kept ∙ ap (λ s. s.cells) (sym c.self.view_is) in
    c.in_ok-read.ensures
    ∙ ap (λ bytes. take c.args.len (drop c.args.offset bytes)) c.as_slice.ensures.value
    ∙ read_told c.self.inside.bytes.items c.self.inside.words.items c.args.self.now.cells c.args.offset c.args.len cells c.self.invariant
