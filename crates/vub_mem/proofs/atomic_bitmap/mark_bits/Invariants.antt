use Rattle.vub_mem.proofs.MarkLaws.{BitsSo}
use Rattle.vub_mem.proofs.atomic_bitmap.mark_bits.Given as goal

abbrev pub invariant-loop-i : goal.invariant-loop-i
invariant-loop-i g l = BitsSo g.L.DirtyLog.byte_len g.L.DirtyLog.marks l.fn.log l.log l.first l.i
