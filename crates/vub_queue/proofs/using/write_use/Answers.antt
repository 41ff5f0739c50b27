use Rattle.std.proofs.Common.{rules}
use Rattle.vub_mem.specs.Marks.{MarksAll, page_marks, marks_of}
use Rattle.vub_queue.specs.Put.{used_marks}
use Rattle.vub_queue.specs.Layout.{used_element_at, used_index_at}
use Rattle.vub_queue.proofs.using.write_use.Goals as goal
use Rattle.vub_queue.proofs.Puts.{marks_two}

pub returns-clause-logs : goal.returns-clause-logs
unfolding used_marks
returns-clause-logs g c =
    let first : MarksAll (page_marks g.L.DirtyLog.byte_len g.L.DirtyLog.marks) c.args.memory.now.logs (marks_of c.args.memory.now.guest.regions (used_element_at c.args.queue.now) 8) c.write_behind.new.memory.logs = search rules in
    let second : MarksAll (page_marks g.L.DirtyLog.byte_len g.L.DirtyLog.marks) c.write_behind.new.memory.logs (marks_of c.write_behind.new.memory.guest.regions (used_index_at c.args.queue.now) 2) c.write_behind-2.new.memory.logs = search rules in
    marks_two (page_marks g.L.DirtyLog.byte_len g.L.DirtyLog.marks) _ _ (λ rs. marks_of rs (used_index_at c.args.queue.now) 2) _ _ _ _ c.write_behind.ensures.regions first second
