use Rattle.vub_sparse.specs.Holes.{Marked}
use Rattle.vub_sparse.proofs.holes.mark_each.Given as goal

abbrev pub invariant-loop-place : goal.invariant-loop-place
invariant-loop-place l = Marked l.initial.words l.words l.from l.place l.hole
