use Rattle.std.proofs.Common.{sym, ◌∙◌}
use Rattle.vub_driver.proofs.Fitting.{fits}
use Rattle.vub_driver.proofs.checks.fault_of.Goals as goal

pub returns-clause-none : goal.returns-clause-none
returns-clause-none c =
    fits c.args.layout.now (sym c.has_size.ensures ∙ c.if-not-has_size.false) (sym c.is_disjoint.ensures ∙ c.if-not-is_disjoint.false)
