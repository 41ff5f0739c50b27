use Rattle.std.proofs.Common.{◌≡◌, ◌∙◌, ◌*◌, ap, arith, length}
use Rattle.vub_sparse.specs.Cells.{resized}
use Rattle.vub_block.specs.Disk.{sectors_of}
use Rattle.vub_block.proofs.Splices.{length-new, sectors_new}
use Rattle.vub_block.proofs.sectors.Sectors.new.Goals as goal

pub invariant_of-result : goal.invariant_of-result
invariant_of-result c =
    let cells : c.resize.new.self.cells ≡ resized (512 * c.args.count) c.new-file.result.cells =
    c.in-Ok.ensures.ok ∙ ap (λ n. resized (512 * n) c.new-file.result.cells) c.from.ensures in
    let long : length c.resize.new.self.cells ≡ 512 * c.args.count =
    ap length cells ∙ ap (λ cs. length (resized (512 * c.args.count) cs)) c.new-file.ensures.cells ∙ length-new (512 * c.args.count) in
    record {
      failing = c.resize.ensures.called.failing ∙ c.new-file.ensures.lists.0;
      stalling = c.resize.ensures.called.stalling ∙ c.new-file.ensures.lists.1;
      whole = omega (arith, long);
      most = omega (arith, long, c.requires);
    }

pub returns-in-Ok : goal.returns-in-Ok
returns-in-Ok c =
    ap sectors_of c.in-Ok.ensures.ok
    ∙ ap (λ n. sectors_of (resized (512 * n) c.new-file.result.cells)) c.from.ensures
    ∙ ap (λ cs. sectors_of (resized (512 * c.args.count) cs)) c.new-file.ensures.cells ∙ sectors_new c.args.count
