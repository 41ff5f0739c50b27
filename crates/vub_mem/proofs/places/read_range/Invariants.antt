use Rattle.std.proofs.Common.{◌<◌}
use Rattle.vub_mem.specs.Halving.{StandsAt}
use Rattle.vub_mem.proofs.Chunks.{ReadSo}
use Rattle.vub_mem.proofs.places.read_range.Given as goal

abbrev pub invariant-loop-left : goal.invariant-loop-left
invariant-loop-left l = record { read : ReadSo (record { regions = l.regions; contents = l.contents }) l.fn.addr l.fn.len l.at l.left l.bytes.items; stands : 0 < l.left → StandsAt l.regions l.at l.on }

abbrev pub decreases-loop-left : goal.decreases-loop-left
decreases-loop-left l = l.left
