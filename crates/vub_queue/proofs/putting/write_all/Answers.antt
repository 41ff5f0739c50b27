use Rattle.std.proofs.Common.{rules}
use Rattle.vub_mem.specs.Marks.{MarksAll, page_marks}
use Rattle.vub_queue.specs.Put.{used_marks, reply_marks}
use Rattle.vub_queue.proofs.putting.write_all.Goals as goal
use Rattle.vub_queue.proofs.Puts.{marks_two}

pub returns-clause-logs : goal.returns-clause-logs
returns-clause-logs g c =
    let first : MarksAll (page_marks g.L.DirtyLog.byte_len g.L.DirtyLog.marks) c.args.memory.now.logs (reply_marks c.args.memory.now.guest.regions c.args.chain.now.segments c.args.reply.now) c.write_room.new.memory.logs = search rules in
    marks_two (page_marks g.L.DirtyLog.byte_len g.L.DirtyLog.marks) _ _ (λ rs. used_marks rs c.args.queue.now) _ _ _ _ c.write_room.ensures.regions first c.write_use.ensures.logs
