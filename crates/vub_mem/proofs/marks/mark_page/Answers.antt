use Rattle.vub_mem.proofs.marks.mark_page.Goals as goal
use Rattle.vub_mem.proofs.MarkLaws.{page_below}

pub mark_log-requires : goal.mark_log-requires
mark_log-requires g c = page_below g.L.DirtyLog.byte_len _ _ _ _ c.in-Some-log.place c.requires.logged c.in-Some.ensures.found c.in-Some-log.is
