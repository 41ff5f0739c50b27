use Rattle.std.proofs.Common.{◌≡◌, drop, take}
use Rattle.std.specs.List.{AllByRecursion}
use Rattle.vub_mem.specs.Table.{IsTested}
use Rattle.vub_mem.specs.Table.{regions_fault}
use Rattle.vub_mem.proofs.table.test_regions.Given as goal

abbrev pub invariant-loop-region : goal.invariant-loop-region
invariant-loop-region l =
    (regions_fault l.contents (drop l.region-index l.regions) ≡ regions_fault l.contents l.regions)
    × AllByRecursion (λ r. IsTested l.contents r) (take l.region-index l.regions)
