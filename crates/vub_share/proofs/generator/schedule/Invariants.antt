use Rattle.std.proofs.Common.{◌≡◌, ◌-◌, ◌++◌}
use Rattle.std.specs.List.{repeat}
use Rattle.vub_share.specs.Generator.{turns_of_entry}
use Rattle.vub_share.proofs.generator.schedule.Given as goal

abbrev pub invariant-loop : goal.invariant-loop
invariant-loop l = l.turns.items ++ repeat (l.n - l.counter) turns_of_entry ≡ repeat l.n turns_of_entry
