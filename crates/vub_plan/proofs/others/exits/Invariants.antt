use Rattle.std.proofs.Common.{◌≡◌, ◌-◌, ◌++◌, take}
use Rattle.vub_model.specs.Plans.{exit_steps}
use Rattle.vub_plan.proofs.others.exits.Given as goal

abbrev pub invariant-loop-done : goal.invariant-loop-done
invariant-loop-done l =
    exit_steps (take (l.count - l.done) l.opened) ++ l.plan ≡ exit_steps l.opened ++ l.fn.steps
