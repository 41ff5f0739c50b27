use Rattle.vub_laws.proofs.laws.replies_are_the_same.Goals as goal
use Rattle.vub_laws.proofs.Worked.{replies-same}

pub returns : goal.returns
returns c = replies-same
