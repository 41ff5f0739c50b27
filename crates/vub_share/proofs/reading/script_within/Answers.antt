use Rattle.vub_share.proofs.OneRunOf.{from-served}
use Rattle.vub_share.proofs.reading.script_within.Goals as goal

pub returns-in-Ok-clause-service : goal.returns-in-Ok-clause-service
returns-in-Ok-clause-service c = from-served c.args.draft c.in-Ok.script c.in-Ok.ensures c.requires
