use Rattle.vub_driver.proofs.laws.driver_understands.Goals as goal
use Rattle.vub_driver.proofs.Steps.{understands}

pub returns : goal.returns
returns c = understands
