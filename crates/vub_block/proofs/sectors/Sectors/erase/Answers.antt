use Rattle.std.proofs.Common.{◌∙◌, ◌<◌, length, arith}
use Rattle.vub_block.proofs.Erasing.{one_erased}
use Rattle.vub_block.proofs.sectors.Sectors.erase.Goals as goal

pub loop-piece-preserved : goal.loop-piece-preserved
loop-piece-preserved c =
    let here : c.loop-piece.piece-index < length c.args.pieces.now = omega arith in
    let next = one_erased c.args.erase c.args.pieces.now c.loop-piece.piece-index (record { first = 0; count = 0; flags = 0 }) c.loop-piece.self c.blank.new.self here c.loop-piece.invariant.within
    (rw c.makes_holes-hole.ensures at c.blank.ensures) in
    record { within = next.0; done = next.1 ∙ c.loop-piece.invariant.done }
