use Rattle.std.proofs.Common.{◌≡◌, ◌∙◌, ◌+◌, ◌-◌, ◌<◌, ◌&&◌, false, true, length, take, drop, sym, ap, arith}
use Rattle.std.specs.List.{list_all}
use Rattle.vub_sparse.specs.Cells.{cell_at, is_hole}
use Rattle.vub_block.proofs.Erasing.{holes_from, is_inside}
use Rattle.vub_block.proofs.sectors.are_holes.Goals as goal

pub returns-then-not-hole_at : goal.returns-then-not-hole_at
returns-then-not-hole_at c =
    let here : c.loop-place.place < length c.args.file.now.cells = omega arith in
    let hole : is_hole (cell_at c.args.file.now.cells c.loop-place.place) ≡ false =
    sym (is_inside c.loop-place.place c.args.file.now.cells c.hole_at.result here c.hole_at.ensures) ∙ c.if-not-hole_at.true in
    let rest = holes_from (c.args.to - c.loop-place.place) c.loop-place.place c.args.file.now.cells here (omega arith) in
    sym (sym c.loop-place.invariant ∙ rest ∙ ap (λ b. b && list_all is_hole (take (c.args.to - c.loop-place.place - 1) (drop (c.loop-place.place + 1) c.args.file.now.cells))) hole)

pub loop-place-preserved : goal.loop-place-preserved
loop-place-preserved c =
    let here : c.loop-place.place < length c.args.file.now.cells = omega arith in
    let hole : is_hole (cell_at c.args.file.now.cells c.loop-place.place) ≡ true =
    sym (is_inside c.loop-place.place c.args.file.now.cells c.hole_at.result here c.hole_at.ensures) ∙ c.if-not-hole_at.false in
    let rest = holes_from (c.args.to - c.loop-place.place) c.loop-place.place c.args.file.now.cells here (omega arith) in
    let less : c.args.to - (c.loop-place.place + 1) ≡ c.args.to - c.loop-place.place - 1 = omega arith in
    ap (λ n. list_all is_hole (take n (drop (c.loop-place.place + 1) c.args.file.now.cells))) less
    ∙ sym (rest ∙ ap (λ b. b && list_all is_hole (take (c.args.to - c.loop-place.place - 1) (drop (c.loop-place.place + 1) c.args.file.now.cells))) hole)
    ∙ c.loop-place.invariant
