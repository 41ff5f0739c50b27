use Rattle.std.proofs.Common.{◌≡◌, ◌++◌, map, drop}
use Rattle.vub_model.specs.RunRecords.{stops_from}
use Rattle.vub_loop.specs.Handler.{phase_of}
use Rattle.vub_core.proofs.counting.stops_of.Given as goal

abbrev pub invariant-loop-number : goal.invariant-loop-number
invariant-loop-number l = l.stops.items ++ stops_from l.number (map (λ w. phase_of w) (drop l.number l.workers)) ≡ stops_from 0 (map (λ w. phase_of w) l.workers)
