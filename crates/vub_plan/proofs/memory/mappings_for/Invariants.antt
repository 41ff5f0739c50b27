use Rattle.std.proofs.Common.{◌≡◌, take}
use Rattle.vub_model.specs.Plans.{mappings_for}
use Rattle.vub_plan.proofs.memory.mappings_for.Given as goal

abbrev pub invariant-loop-at : goal.invariant-loop-at
invariant-loop-at l = l.mappings.items ≡ mappings_for (take l.at l.parts) (take l.at l.contents)
