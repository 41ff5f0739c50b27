use Rattle.std.proofs.Common.{◌*◌}
use Rattle.vub_sparse.specs.Holes.{Marked}
use Rattle.vub_sparse.proofs.holes.mark_words.Given as goal

abbrev pub invariant-loop-index : goal.invariant-loop-index
invariant-loop-index l = Marked l.initial.words l.words (64 * l.from) (64 * l.index) l.hole
