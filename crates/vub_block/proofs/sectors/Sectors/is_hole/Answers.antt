use Rattle.std.proofs.Common.{◌≡◌, ◌∙◌, ◌+◌, ◌-◌, ◌*◌, ◌/◌, ◌<◌, ◌≤◌, ℕ, ◌&&◌, false, nat_lt, length, take, drop, get_or, [], sym, ap, arith}
use Rattle.std.specs.List.{list_all}
use Rattle.vub_sparse.specs.Cells.{is_hole}
use Rattle.vub_block.specs.Disk.{sectors_of, is_hole_sector}
use Rattle.vub_block.proofs.Splices.{count_sectors, hole_at}
use Rattle.vub_block.proofs.sectors.Sectors.is_hole.Goals as goal

past : (s n : ℕ) → n ≤ s → nat_lt s n ≡ false
past s n h = grind arith

pub returns-then-from-count : goal.returns-then-from-count
unfolding is_hole_sector
returns-then-from-count c =
    let beyond : nat_lt c.args.sector (length c.args.self.now) ≡ false = past c.args.sector (length c.args.self.now) (omega (arith, c.count.ensures.count, c.from.ensures)) in
    sym (ap (λ b. b && list_all is_hole (get_or c.args.self.now c.args.sector [])) beyond)

pub are_holes-requires : goal.are_holes-requires
are_holes-requires c =
    let count : length c.args.self.now ≡ length c.self.inside.file.cells / 512 = ap length (sym c.self.view_is) ∙ count_sectors c.self.inside.file.cells in
    omega (arith, count, c.count.ensures.count, c.self.invariant.whole)

pub returns : goal.returns
returns c =
    let here : c.args.sector < length (sectors_of c.self.inside.file.cells) = omega (arith, ap length c.self.view_is, c.count.ensures.count, c.from.ensures) in
    let whole : 512 * c.from-first.result + 512 - 512 * c.from-first.result ≡ 512 = omega arith in
    hole_at c.args.sector c.self.inside.file.cells c.are_holes.result here
    (c.are_holes.ensures
    ∙ ap (λ n. list_all is_hole (take n (drop (512 * c.from-first.result) c.self.inside.file.cells))) whole
    ∙ ap (λ s. list_all is_hole (take 512 (drop (512 * s) c.self.inside.file.cells))) c.from-first.ensures)
    ∙ ap (λ ss. is_hole_sector ss c.args.sector) c.self.view_is
