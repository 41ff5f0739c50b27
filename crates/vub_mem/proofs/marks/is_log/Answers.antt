use Rattle.std.proofs.Common.{sym, ◌≢◌, ◌∙◌, eqb}
use Rattle.std.proofs.lemmas.Bool.{eqb-false}
use Rattle.vub_mem.specs.declared.dirty.Stored.{Stored}
use Rattle.vub_mem.proofs.marks.is_log.Goals as goal
use Rattle.vub_mem.proofs.Finds.{none_any}

pub returns-else-any_log-clause-absent : goal.returns-else-any_log-clause-absent
returns-else-any_log-clause-absent g c = λ none. none_any (λ (x : Stored _). eqb x.object c.args.object) (λ (x : Stored _). x.object ≢ c.args.object) c.args.logs.now (λ x f. eqb-false x.object c.args.object f) (sym c.any_log.ensures ∙ c.if-any_log.false)
