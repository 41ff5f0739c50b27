use Rattle.vub_driver.proofs.Storing.{submits_store}
use Rattle.vub_driver.proofs.laws.submits_are_stores.Goals as goal

pub returns : goal.returns
returns c = submits_store
