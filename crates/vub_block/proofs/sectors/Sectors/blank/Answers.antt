use Rattle.std.proofs.Common.{◌≡◌, ◌∙◌, ◌+◌, ◌*◌, ◌/◌, ◌≤◌, true, ap, sym, arith, length}
use Rattle.vub_sparse.specs.Cells.{set}
use Rattle.vub_block.specs.Disk.{sectors_of, blank_sectors, replaced}
use Rattle.vub_block.proofs.Mediums.{done, never_fails, stays}
use Rattle.vub_block.proofs.Splices.{count_sectors, length-set_sectors, sectors_set}
use Rattle.vub_block.proofs.sectors.Sectors.blank.Goals as goal

pub overflow_mul-first : goal.overflow_mul-first
overflow_mul-first c =
    let count : length c.args.self.now ≡ length c.self.inside.file.cells / 512 = ap length (sym c.self.view_is) ∙ count_sectors c.self.inside.file.cells in
    omega (arith, count, c.requires, c.self.invariant.most)

pub invariant_of-self : goal.invariant_of-self
invariant_of-self c =
    let fits : c.args.first + c.args.count ≤ length (sectors_of c.self.inside.file.cells) = omega (arith, ap length c.self.view_is, c.requires) in
    let inside : 512 * c.args.first + 512 * c.args.count ≤ length c.self.inside.file.cells =
    omega (arith, fits, count_sectors c.self.inside.file.cells, c.self.invariant.whole) in
    let cells : c.set_cells-done.new.self.cells ≡ set (512 * c.args.first) (512 * c.args.count) c.args.hole true c.self.inside.file.cells =
    rw (← c.from-len.ensures) (done _ c.set_cells-done.result (c.set_cells-done.ensures.inside (never_fails c.self.inside.file c.self.invariant) (omega (arith, inside, c.from-len.ensures))) c.set_cells-done.ensures.ok) in
    stays c.self.inside.file c.set_cells-done.new.self _ c.self.invariant c.set_cells-done.ensures.called
    (ap length cells ∙ length-set_sectors c.args.first c.args.count c.args.hole c.self.inside.file.cells c.self.invariant.whole fits)

pub returns : goal.returns
returns c =
    let fits : c.args.first + c.args.count ≤ length (sectors_of c.self.inside.file.cells) = omega (arith, ap length c.self.view_is, c.requires) in
    let inside : 512 * c.args.first + 512 * c.args.count ≤ length c.self.inside.file.cells =
    omega (arith, fits, count_sectors c.self.inside.file.cells, c.self.invariant.whole) in
    let cells : c.set_cells-done.new.self.cells ≡ set (512 * c.args.first) (512 * c.args.count) c.args.hole true c.self.inside.file.cells =
    rw (← c.from-len.ensures) (done _ c.set_cells-done.result (c.set_cells-done.ensures.inside (never_fails c.self.inside.file c.self.invariant) (omega (arith, inside, c.from-len.ensures))) c.set_cells-done.ensures.ok) in
    ap sectors_of cells
    ∙ sectors_set c.args.first c.args.count c.args.hole c.self.inside.file.cells c.self.invariant.whole fits
    ∙ ap (replaced c.args.first (blank_sectors c.args.count c.args.hole)) c.self.view_is
