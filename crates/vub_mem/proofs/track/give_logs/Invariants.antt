use Rattle.std.proofs.Common.{◌≡◌, ◌++◌, map, take, drop}
use Rattle.vub_mem.specs.Track.{with_log}
use Rattle.vub_mem.proofs.track.give_logs.Given as goal

abbrev pub invariant-loop-region : goal.invariant-loop-region
invariant-loop-region l = l.regions ≡ map (λ r. with_log l.object l.offset r) (take l.region-index l.initial.regions) ++ drop l.region-index l.initial.regions
