use Rattle.std.proofs.Common.{◌≡◌, ◌-◌, ◌++◌, ◌∷◌, [], true}
use Rattle.vub_model.specs.Plans.{each_queue, enable_steps}
use Rattle.vub_plan.specs.Wires.{known_in}
use Rattle.vub_plan.proofs.features.enable_all.Given as goal

abbrev pub invariant-loop-done : goal.invariant-loop-done
invariant-loop-done l =
    each_queue (λ q. enable_steps l.wired q (known_in l.known q) true) (l.count - l.done) ++ l.plan
    ≡ each_queue (λ q. enable_steps l.wired q (known_in l.known q) true) l.count ++ l.fn.steps
