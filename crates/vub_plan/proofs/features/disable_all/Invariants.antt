use Rattle.std.proofs.Common.{◌≡◌, ◌-◌, ◌++◌, ◌∷◌, [], true}
use Rattle.vub_model.specs.Plans.{each_queue, disable_steps}
use Rattle.vub_plan.specs.Wires.{known_in}
use Rattle.vub_plan.proofs.features.disable_all.Given as goal

abbrev pub invariant-loop-done : goal.invariant-loop-done
invariant-loop-done l =
    each_queue (λ q. disable_steps l.wired q (known_in l.known q)) (l.count - l.done) ++ l.plan
    ≡ each_queue (λ q. disable_steps l.wired q (known_in l.known q)) l.count ++ l.fn.steps
