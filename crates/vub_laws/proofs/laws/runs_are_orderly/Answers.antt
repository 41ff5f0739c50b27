use Rattle.vub_laws.proofs.laws.runs_are_orderly.Goals as goal
use Rattle.vub_laws.proofs.Orderly.{runs-are-orderly}

pub returns : goal.returns
returns o c = runs-are-orderly _
