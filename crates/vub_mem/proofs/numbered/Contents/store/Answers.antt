use Rattle.std.proofs.Common.{ap, arith, length}
use Rattle.vub_mem.proofs.numbered.Contents.store.Goals as goal
use Rattle.vub_mem.proofs.Contents.{store_none}

pub returns-in-None : goal.returns-in-None
returns-in-None c = store_none _ _ _ _ (omega (arith, ap length c.in-None.ensures.none))
