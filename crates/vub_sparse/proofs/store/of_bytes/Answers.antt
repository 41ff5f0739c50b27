use Rattle.std.proofs.Common.{◌∙◌, ap, map, arith}
use Rattle.vub_sparse.specs.Cells.{Byte}
use Rattle.vub_sparse.proofs.StoreLemmas.{bytes_only}
use Rattle.vub_sparse.proofs.store.of_bytes.Goals as goal

pub returns-clause-cells : goal.returns-clause-cells
returns-clause-cells c =
    bytes_only c.in_ok-bytes.bytes.items c.mark.new.words.items (λ k h. c.mark.ensures.inside k (omega arith) (omega arith))
    ∙ ap (λ bytes. map (λ b. Byte b) bytes) c.in_ok-bytes.ensures.items
