use Rattle.std.proofs.Common.{◌+◌, ◌*◌, ◌/◌, max}
use Rattle.vub_mem.specs.Halving.{IsPast}
use Rattle.vub_mem.specs.Marks.{MarksAll, page_marks}
use Rattle.vub_mem.proofs.MarkLaws.{marks_so}
use Rattle.vub_mem.proofs.marks.mark_from.Given as goal

abbrev pub invariant-loop-i : goal.invariant-loop-i
invariant-loop-i g l = record {
  marked : MarksAll (page_marks g.L.DirtyLog.byte_len g.L.DirtyLog.marks) l.fn.logs (marks_so l.regions l.addr l.i) l.logs;
  past : IsPast l.regions (max l.addr (4096 * (l.addr / 4096 + l.i))) l.on;
}
