use Rattle.std.proofs.Common.{refl, ◌≡◌, Err}
use Rattle.vub_mem.specs.declared.errors.LogError.TheVariants.{GenerationsSpent}
use Rattle.vub_mem.proofs.harvests.harvest_log.Goals as goal
use Rattle.vub_mem.proofs.MarkLaws.{harvested_at, spent_at, len_set}

pub returns-clause-harvested : goal.returns-clause-harvested
returns-clause-harvested g c = harvested_at (λ old bits new. g.L.HarvestLog.harvests old c.args.word bits new) _ _ _ _ _ _ c.in-Some.ensures.found refl c.harvest.ensures.harvested

pub returns-clause-spent : goal.returns-clause-spent
returns-clause-spent g c = spent_at (c.harvest.result ≡ Err GenerationsSpent) (λ log. g.L.HarvestLog.spent log c.args.word) _ _ _ _ c.in-Some.ensures.found c.harvest.ensures.spent

pub returns-clause-keeps : goal.returns-clause-keeps
returns-clause-keeps g c = λ o. len_set g.L.DirtyLog.byte_len _ _ _ _ _ o c.in-Some.ensures.found refl c.harvest.ensures.len
