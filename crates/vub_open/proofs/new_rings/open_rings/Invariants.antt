use Rattle.std.proofs.Common.{◌≡◌, ◌==◌, map, find}
use Rattle.std.specs.List.{range_with_len}
use Rattle.vub_model.specs.Opening.{ring_from}
use Rattle.vub_open.proofs.new_rings.open_rings.Given as goal

abbrev pub invariant-loop-queue : goal.invariant-loop-queue
invariant-loop-queue l = l.rings.items ≡ map (λ q. ring_from l.constants.max (find (λ r. r.queue == q) l.given)) (range_with_len 0 l.queue)
