use Rattle.std.proofs.Common.{◌≡◌, ℕ, ◌+◌, ◌-◌, ◌++◌, ◌∷◌, [], true, List, ap, ◌∙◌, arith}
use Rattle.vub_model.specs.declared.ring_op.RingOp.TheVariants as op
use Rattle.vub_model.specs.declared.small.Small.{Small}
use Rattle.vub_model.specs.declared.small.Small.TheVariants.{Set}
use Rattle.vub_model.specs.declared.wiring.Known.{Known}
use Rattle.vub_model.specs.Plans.{each_queue, enable_steps}
use Rattle.vub_plan.specs.Wires.{known_in}
use Rattle.vub_plan.proofs.Queues.{queues-next}
use Rattle.vub_plan.proofs.features.enable_all.Goals as goal

pub loop-done-preserved : goal.loop-done-preserved
loop-done-preserved c =
    let steps : ℕ → List Small = λ q. enable_steps c.args.wired.now q (known_in c.args.known.now q) true in
    let count : ℕ = c.queue_count-count.result in
    let done : ℕ = c.loop-done.done in
    ap (λ (p : List Small). each_queue steps (count - (done + 1)) ++ p) (c.in_ok-plan.ensures ∙ ap (λ (k : Known). enable_steps c.args.wired.now (count - 1 - done) k true ++ c.loop-done.plan) c.known_at.ensures)
    ∙ queues-next steps count done c.loop-done.plan (omega (arith, c.loop-done-test.true))
    ∙ c.loop-done.invariant
