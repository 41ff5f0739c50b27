use Rattle.std.proofs.Common.{◌≡◌, ◌∷◌, rules, sym}
use Rattle.vub_mem.proofs.table.test_table.Goals as goal
use Rattle.vub_mem.proofs.Tables.{sound_table}

pub returns-in-None-test_pairs-clause-tested : goal.returns-in-None-test_pairs-clause-tested
returns-in-None-test_pairs-clause-tested c =
    let split : c.args.regions.now ≡ c.in-Some-split_first.first.now ∷ c.in-Some-split_first.others.now = search rules in
    sound_table _ _ _ _ split c.in-None.ensures.tested (sym c.in-None-test_pairs.ensures)
