use Rattle.vub_block.proofs.Refusals.{change_nothing}
use Rattle.vub_block.proofs.laws.refusals_change_nothing.Goals as goal

pub returns : goal.returns
returns c = change_nothing
