use Rattle.vub_share.proofs.OneRunOf.{run-again}
use Rattle.vub_share.proofs.playing.run_of.Goals as goal

pub returns-in-Ok-clause-run : goal.returns-in-Ok-clause-run
returns-in-Ok-clause-run c = run-again c.args.script c.as_slice.result.now c.in-Ok.run' c.as_slice.ensures c.in-Ok.ensures.run
