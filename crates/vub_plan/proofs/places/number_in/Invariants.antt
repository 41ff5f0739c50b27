use Rattle.std.proofs.Common.{◌≡◌, ◌≤◌}
use Rattle.vub_model.specs.Wiring.{number_in}
use Rattle.vub_plan.proofs.places.number_in.Given as goal

abbrev pub invariant-loop-other : goal.invariant-loop-other
invariant-loop-other l = (l.number ≡ number_in l.mask l.other) × (l.number ≤ l.other)
