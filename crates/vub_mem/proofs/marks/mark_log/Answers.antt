use Rattle.std.proofs.Common.{refl}
use Rattle.vub_mem.specs.Marks.{page_marks}
use Rattle.vub_mem.proofs.marks.mark_log.Goals as goal
use Rattle.vub_mem.proofs.MarkLaws.{changed_at, page_at}

pub mark_one-requires : goal.mark_one-requires
mark_one-requires g c = page_at g.L.DirtyLog.byte_len _ _ _ _ _ c.in-Some.ensures.found c.requires

pub returns : goal.returns
returns g c = changed_at (λ old new. page_marks g.L.DirtyLog.byte_len g.L.DirtyLog.marks old c.args.page new) _ _ _ _ _ c.in-Some.ensures.found refl c.mark_one.ensures
