use Rattle.std.proofs.Common.{◌≡◌, ◌∙◌, ◌+◌, ◌/◌, ◌≤◌, ap, sym, arith, length}
use Rattle.vub_block.specs.Disk.{sectors_of, bytes_of}
use Rattle.vub_block.proofs.Splices.{count_sectors, sectors_read}
use Rattle.vub_block.proofs.sectors.Sectors.read.Goals as goal
use Rattle.vub_block.proofs.sectors.Sectors.read.Goals.{in-Ok, in-Err}

pub overflow_mul-first : goal.overflow_mul-first
overflow_mul-first c =
    let count : length c.args.self.now ≡ length c.self.inside.file.cells / 512 = ap length (sym c.self.view_is) ∙ count_sectors c.self.inside.file.cells in
    omega (arith, count, c.requires, c.self.invariant.most)

pub returns-clause-bytes : goal.returns-clause-bytes
returns-clause-bytes c =
    let fits : c.args.first + c.args.count ≤ length (sectors_of c.self.inside.file.cells) = omega (arith, ap length c.self.view_is, c.requires) in
    elim c.match-read_at.branch [
      | in-Ok w ↦ rw w.result-is
          (w.in-Ok.ensures.bytes ∙ sectors_read c.args.first c.args.count c.self.inside.file.cells fits ∙ ap (bytes_of c.args.first c.args.count) c.self.view_is)
      | in-Err w ↦ rw w.result-is tt
    ]
