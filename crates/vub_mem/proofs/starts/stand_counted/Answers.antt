use Rattle.std.proofs.Common.{subst}
use Rattle.vub_mem.specs.Halving.{IsParted}
use Rattle.vub_mem.proofs.starts.stand_counted.Goals as goal
use Rattle.vub_mem.proofs.Halving.{stands_parted}

pub returns-clause-stands : goal.returns-clause-stands
returns-clause-stands g c =
    rw c.saturating_sub.ensures
    (stands_parted _ _ _ c.requires (subst (λ rs. IsParted rs c.args.addr c.count_starts.result) c.new-starts.ensures c.count_starts.ensures.parted))
