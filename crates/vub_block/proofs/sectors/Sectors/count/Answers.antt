use Rattle.std.proofs.Common.{◌∙◌, ◌/◌, ap, sym, subst, length}
use Rattle.vub_block.specs.Disk.{AreWhole}
use Rattle.vub_block.proofs.Splices.{count_sectors, sectors_whole}
use Rattle.vub_block.proofs.sectors.Sectors.count.Goals as goal

pub returns-clause-count : goal.returns-clause-count
returns-clause-count c =
    ap (λ n. n / 512) c.len.ensures ∙ sym (count_sectors c.self.inside.file.cells) ∙ ap length c.self.view_is

pub returns-clause-whole : goal.returns-clause-whole
returns-clause-whole c = subst AreWhole c.self.view_is (sectors_whole c.self.inside.file.cells)
