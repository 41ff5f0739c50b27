use Rattle.vub_locks.proofs.Matching.{AgreeBefore}
use Rattle.vub_locks.proofs.comparing.first_apart.Given as goal

abbrev pub invariant-loop-place : goal.invariant-loop-place
invariant-loop-place l = AgreeBefore l.spent l.calls l.place
