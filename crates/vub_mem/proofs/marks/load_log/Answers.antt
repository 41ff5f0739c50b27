use Rattle.std.proofs.Common.{refl}
use Rattle.vub_mem.proofs.marks.load_log.Goals as goal
use Rattle.vub_mem.proofs.MarkLaws.{changed_at, len_set, byte_at_place}

pub load-requires : goal.load-requires
load-requires g c = byte_at_place g.L.DirtyLog.byte_len _ _ _ _ _ c.in-Some.ensures.found c.requires

pub returns-clause-loaded : goal.returns-clause-loaded
returns-clause-loaded g c = changed_at (λ old new. g.L.DirtyLog.loads old c.args.byte c.load.result new) _ _ _ _ _ c.in-Some.ensures.found refl c.load.ensures.loaded

pub returns-clause-keeps : goal.returns-clause-keeps
returns-clause-keeps g c = λ o. len_set g.L.DirtyLog.byte_len _ _ _ _ _ o c.in-Some.ensures.found refl c.load.ensures.len
