use Rattle.std.proofs.Common.{◌+◌, Ok, refl, arith}
use Rattle.std.proofs.lemmas.Iterator.{items_from_collect, YieldsList-from_range}
use Rattle.vub_script.proofs.write_out.parties_of.Goals as goal

pub returns : goal.returns
returns c = items_from_collect {E = Unit {0}} (Ok c.in_ok-found.found) c.in_ok-found.ensures.ran (YieldsList-from_range 0 (c.args.workers + 2) (c.args.workers + 2) refl (omega arith))
