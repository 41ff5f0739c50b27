use Rattle.vub_share.proofs.GeneratorValid.{made_served, never_refused}
use Rattle.vub_share.proofs.program.run_of_make.Goals as goal

pub run_of-requires : goal.run_of-requires
run_of-requires c = made_served c.in_ok-script.script c.args.count c.in_ok-script.ensures

pub memory_of-requires : goal.memory_of-requires
memory_of-requires c = never_refused c.in_ok-script.script c.args.count c.in-Err.why c.requires c.in_ok-script.ensures c.in-Err.ensures.refused
