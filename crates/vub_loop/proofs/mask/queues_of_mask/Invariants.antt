use Rattle.std.proofs.Common.{◌≡◌}
use Rattle.vub_model.specs.Wiring.{queues_in}
use Rattle.vub_loop.proofs.mask.queues_of_mask.Given as goal

abbrev pub invariant-loop-queue : goal.invariant-loop-queue
invariant-loop-queue l = l.queues.items ≡ queues_in l.queue l.mask
