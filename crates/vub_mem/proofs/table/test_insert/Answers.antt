use Rattle.std.proofs.Common.{rules, ◌≡◌, false}
use Rattle.std.specs.List.{list_any}
use Rattle.vub_mem.specs.Table.{meets}
use Rattle.vub_mem.proofs.table.test_insert.Goals as goal
use Rattle.vub_mem.proofs.Tables.{sound_insert}

pub returns-else-meets_any-clause-tested : goal.returns-else-meets_any-clause-tested
returns-else-meets_any-clause-tested c =
    let none : list_any (λ q. meets q c.args.region.now) c.args.regions.now ≡ false = search rules in
    sound_insert _ _ _ c.requires c.in-None.ensures.tested none
