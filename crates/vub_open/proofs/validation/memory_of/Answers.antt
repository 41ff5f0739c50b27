use Rattle.vub_open.proofs.TableGiven.{table_given}
use Rattle.vub_open.proofs.validation.memory_of.Goals as goal

pub returns-in-Ok-replace_table-clause-guest : goal.returns-in-Ok-replace_table-clause-guest
returns-in-Ok-replace_table-clause-guest c = table_given _ _ _ _ _ c.in-Ok.ensures.contents c.in-Ok-table_of.ensures c.in-Ok-replace_table.ensures.ok
