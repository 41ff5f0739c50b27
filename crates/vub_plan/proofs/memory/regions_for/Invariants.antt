use Rattle.std.proofs.Common.{◌≡◌, take}
use Rattle.vub_model.specs.Plans.{regions_for}
use Rattle.vub_plan.proofs.memory.regions_for.Given as goal

abbrev pub invariant-loop-at : goal.invariant-loop-at
invariant-loop-at l = l.regions.items ≡ regions_for (take l.at l.parts) (take l.at l.contents)
