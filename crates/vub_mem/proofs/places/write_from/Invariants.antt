use Rattle.std.proofs.Common.{◌<◌, length}
use Rattle.vub_mem.proofs.Writes.{WritesSo}
use Rattle.vub_mem.specs.Halving.{StandsAt}
use Rattle.vub_mem.proofs.places.write_from.Given as goal

abbrev pub invariant-loop-rest : goal.invariant-loop-rest
invariant-loop-rest l = record { written : WritesSo l.regions l.fn.contents l.contents l.fn.addr l.fn.bytes l.at l.rest; stands : 0 < length l.rest → StandsAt l.regions l.at l.on }

abbrev pub decreases-loop-rest : goal.decreases-loop-rest
decreases-loop-rest l = length l.rest
