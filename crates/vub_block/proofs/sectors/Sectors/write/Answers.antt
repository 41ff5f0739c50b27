use Rattle.std.proofs.Common.{◌≡◌, ◌∙◌, ◌+◌, ◌*◌, ◌/◌, ◌≤◌, ap, sym, arith, length, map}
use Rattle.vub_sparse.specs.Cells.{Byte}
use Rattle.vub_block.specs.Disk.{sectors_of, replaced}
use Rattle.vub_block.proofs.Mediums.{stays, writes}
use Rattle.vub_block.proofs.Splices.{count_sectors, length-written, sectors_written}
use Rattle.vub_block.proofs.sectors.Sectors.write.Goals as goal

pub overflow_mul-first : goal.overflow_mul-first
overflow_mul-first c =
    let count : length c.args.self.now ≡ length c.self.inside.file.cells / 512 = ap length (sym c.self.view_is) ∙ count_sectors c.self.inside.file.cells in
    omega (arith, count, c.requires.within, c.self.invariant.most)

pub invariant_of-self : goal.invariant_of-self
invariant_of-self c =
    let fits : c.args.first + length c.args.payload.now / 512 ≤ length (sectors_of c.self.inside.file.cells) = omega (arith, ap length c.self.view_is, c.requires.within) in
    let inside : 512 * c.args.first + length c.args.payload.now ≤ length c.self.inside.file.cells =
    omega (arith, fits, count_sectors c.self.inside.file.cells, c.requires.whole, c.self.invariant.whole) in
    let cells = writes c.self.inside.file c.write_at-written.new.self (512 * c.args.first) c.args.payload.now c.write_at-written.result c.self.invariant
    c.write_at-written.ensures.ok c.write_at-written.ensures.inside c.write_at-written.ensures.gives inside in
    stays c.self.inside.file c.write_at-written.new.self _ c.self.invariant c.write_at-written.ensures.gives.called
    (ap length cells ∙ length-written c.args.first c.args.payload.now c.self.inside.file.cells c.self.invariant.whole c.requires.whole fits)

pub returns : goal.returns
returns c =
    let fits : c.args.first + length c.args.payload.now / 512 ≤ length (sectors_of c.self.inside.file.cells) = omega (arith, ap length c.self.view_is, c.requires.within) in
    let inside : 512 * c.args.first + length c.args.payload.now ≤ length c.self.inside.file.cells =
    omega (arith, fits, count_sectors c.self.inside.file.cells, c.requires.whole, c.self.invariant.whole) in
    let cells = writes c.self.inside.file c.write_at-written.new.self (512 * c.args.first) c.args.payload.now c.write_at-written.result c.self.invariant
    c.write_at-written.ensures.ok c.write_at-written.ensures.inside c.write_at-written.ensures.gives inside in
    ap sectors_of cells
    ∙ sectors_written c.args.first c.args.payload.now c.self.inside.file.cells c.self.invariant.whole c.requires.whole fits
    ∙ ap (replaced c.args.first (sectors_of (map Byte c.args.payload.now))) c.self.view_is
