use Rattle.vub_event.proofs.WriteLaws.{told-one-written}
use Rattle.vub_event.proofs.laws.write_one.Goals as goal

pub returns-clause-table : goal.returns-clause-table
returns-clause-table g c =
    rw c.passed_over.ensures (told-one-written c.args.object c.args.value c.signal-answer.result _ _ c.signal-answer.ensures.refusals c.signal-answer.ensures.table)
