use Rattle.vub_sparse.proofs.BitLemmas.{marked_hole, marked_byte}
use Rattle.vub_sparse.proofs.holes.mark_one.Goals as goal

pub returns-then-hole : goal.returns-then-hole
returns-then-hole c = rw c.if-hole.true (marked_hole c.args.words.now c.args.place c.requires)

pub returns-else-hole : goal.returns-else-hole
returns-else-hole c = rw c.if-hole.false (marked_byte c.args.words.now c.args.place c.requires)
