use Rattle.std.proofs.Common.{◌≡◌, ℕ, min, sym, ap, ◌∙◌, arith}
use Rattle.vub_model.specs.Wiring.{queues_in}
use Rattle.vub_loop.proofs.Masks.{queue-listed, queue-unlisted, queues-within}
use Rattle.vub_loop.proofs.mask.queues_of_mask.Goals as goal
use Rattle.vub_loop.proofs.mask.queues_of_mask.Goals.{then-mask-queue-eq1+in_ok-push, else-mask-queue-eq1}

pub loop-queue-preserved : goal.loop-queue-preserved
loop-queue-preserved c =
    elim c.if-mask-queue-eq1.branch [
      | then-mask-queue-eq1+in_ok-push w ↦ rw (w.queues-is, w.in_ok-push.ensures.items, c.loop-queue.invariant) (sym (queue-listed c.loop-queue.queue c.args.mask w.if-mask-queue-eq1.true))
      | else-mask-queue-eq1 w ↦ rw (w.queues-is, c.loop-queue.invariant) (sym (queue-unlisted c.loop-queue.queue c.args.mask w.if-mask-queue-eq1.false))
    ]

pub returns : goal.returns
returns c =
    let end : c.loop-queue.queue ≡ min c.args.count 64 = omega arith in
    c.loop-queue.invariant ∙ ap (λ (n : ℕ). queues_in n c.args.mask) end ∙ queues-within c.args.count c.args.mask c.ranges.mask.fits
