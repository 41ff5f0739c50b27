use Rattle.vub_log.proofs.laws.pages_stand_since_harvest.Goals as goal
use Rattle.vub_log.specs.PageBits.{stands_since}

pub returns : goal.returns
returns c = stands_since
