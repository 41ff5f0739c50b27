use Rattle.std.proofs.Common.{length}
use Rattle.vub_loop.proofs.Numbered.{IsDone}
use Rattle.vub_loop.proofs.phases.queues_at.Given as goal

abbrev pub invariant-loop-number : goal.invariant-loop-number
invariant-loop-number l = IsDone l.queues l.initial.rest l.rest l.due.items l.kept

abbrev pub decreases-loop-number : goal.decreases-loop-number
decreases-loop-number l = length l.rest
