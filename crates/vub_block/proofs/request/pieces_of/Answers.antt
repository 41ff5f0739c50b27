use Rattle.std.proofs.Common.{◌≡◌, ◌+◌, ◌*◌, drop, arith}
use Rattle.std.proofs.lemmas.Grind.{common_steps}
use Rattle.std.proofs.lemmas.List.FromFn.{map-range_with_len_more}
use Rattle.vub_block.specs.Request.{piece_in}
use Rattle.vub_block.proofs.request.pieces_of.Goals as goal

pub loop-index-preserved : goal.loop-index-preserved
loop-index-preserved c =
    let here : 0 + c.loop-index.index ≡ c.loop-index.index = omega arith in
    let more = map-range_with_len_more (λ i. piece_in (drop (16 * i) c.args.payload.now)) 0 c.loop-index.index c.loop-index.index here in
    grind (arith, common_steps, more)
