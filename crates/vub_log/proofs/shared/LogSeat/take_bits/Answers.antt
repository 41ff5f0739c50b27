use Rattle.std.proofs.Common.{rules}
use Rattle.vub_log.proofs.Steps.{harvests_step}
use Rattle.vub_log.proofs.shared.LogSeat.take_bits.Goals as goal

pub swap-found-requires : goal.swap-found-requires
swap-found-requires c = (search rules, search rules, harvests_step _ _ _ _ _ c.from.result (search rules) (search rules) (search rules))
