use Rattle.std.proofs.Common.{◌≡◌, ◌*◌, map, drop}
use Rattle.std.specs.List.{range_with_len}
use Rattle.vub_block.specs.Request.{piece_in}
use Rattle.vub_block.proofs.request.pieces_of.Given as goal

abbrev pub invariant-loop-index : goal.invariant-loop-index
invariant-loop-index l = l.pieces.items ≡ map (λ i. piece_in (drop (16 * i) l.payload)) (range_with_len 0 l.index)
