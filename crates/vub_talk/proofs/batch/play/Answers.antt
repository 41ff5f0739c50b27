use Rattle.vub_talk.proofs.Fewer.{few_played}
use Rattle.vub_talk.proofs.Batched.{has_run}
use Rattle.vub_talk.proofs.Rested.{batch_off}
use Rattle.vub_talk.proofs.batch.play.Goals as goal

pub returns-then-run-clause-run : goal.returns-then-run-clause-run
returns-then-run-clause-run g c = has_run c.in-Ok.ensures.played c.if-run.true

pub returns-then-run-clause-off : goal.returns-then-run-clause-off
returns-then-run-clause-off g c b = batch_off _ _ _ _ _ _ _ _ _ _ c.in-Ok.ensures.played b

pub returns-else-run-clause-few : goal.returns-else-run-clause-few
returns-else-run-clause-few g c b single rounds turns few = few_played _ _ _ _ _ _ _ _ _ _ _ c.in-Ok.ensures.played c.if-run.false b single rounds turns few
