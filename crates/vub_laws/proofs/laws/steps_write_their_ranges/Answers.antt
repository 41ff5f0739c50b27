use Rattle.vub_laws.proofs.laws.steps_write_their_ranges.Goals as goal
use Rattle.vub_model.proofs.LogRanges.{spots-step}

pub returns : goal.returns
returns o c = spots-step
