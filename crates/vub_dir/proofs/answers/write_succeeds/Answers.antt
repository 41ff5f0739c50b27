use Rattle.std.proofs.Common.{sym}
use Rattle.vub_dir.proofs.Writes.{succeeds_none, succeeds_some}
use Rattle.vub_dir.proofs.answers.write_succeeds.Goals as goal

pub returns-in-Some-clause-value : goal.returns-in-Some-clause-value
returns-in-Some-clause-value c = sym (succeeds_some c.args.tree.now c.args.number c.args.body.now c.args.room c.in-Some.field-0 (sym c.in-Some.ensures.refusal))

pub returns-in-None-clause-value : goal.returns-in-None-clause-value
returns-in-None-clause-value c = sym (succeeds_none c.args.tree.now c.args.number c.args.body.now c.args.room (sym c.in-None.ensures.refusal))
