use Rattle.std.proofs.Common.{◌≡◌, ◌++◌, map, take, drop}
use Rattle.vub_mem.specs.Table.{unlogged}
use Rattle.vub_mem.proofs.table.clear_logs.Given as goal

abbrev pub invariant-loop-region : goal.invariant-loop-region
invariant-loop-region l = l.regions ≡ map unlogged (take l.region-index l.initial.regions) ++ drop l.region-index l.initial.regions
