use Rattle.std.proofs.Common.{arith, ltb}
use Rattle.vub_mem.specs.declared.region.Region.{Region}
use Rattle.vub_mem.proofs.table.insert_place.Goals as goal
use Rattle.vub_mem.proofs.Finds.{position_first, position_end}

pub returns-in-Some : goal.returns-in-Some
returns-in-Some c =
    let first = position_first (λ (q : Region). ltb c.args.region.now.start q.start) c.args.regions.now c.in-Some.place c.in-Some.ensures in
    record { value = first.is; within = omega (arith, first.within) }

pub returns-in-None-clause-value : goal.returns-in-None-clause-value
returns-in-None-clause-value c = position_end (λ (q : Region). ltb c.args.region.now.start q.start) c.args.regions.now c.in-None.ensures
