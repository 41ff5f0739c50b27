use Rattle.std.proofs.Common.{◌≡◌, ◌-◌, ◌++◌, ◌∷◌, [], true}
use Rattle.vub_model.specs.declared.ring_op.RingOp.TheVariants as op
use Rattle.vub_model.specs.declared.small.Small.TheVariants.{Set}
use Rattle.vub_model.specs.Plans.{each_queue}
use Rattle.vub_plan.proofs.features.index_all.Given as goal

abbrev pub invariant-loop-done : goal.invariant-loop-done
invariant-loop-done l =
    each_queue (λ q. Set q (op.SetEventIdx l.enabled) ∷ []) (l.count - l.done) ++ l.plan
    ≡ each_queue (λ q. Set q (op.SetEventIdx l.enabled) ∷ []) l.count ++ l.fn.steps
