use Rattle.std.proofs.Common.{rules}
use Rattle.vub_log.proofs.Seating.{joins_step}
use Rattle.vub_log.proofs.shared.LogSeat.take_in.Goals as goal

pub join_seat-requires : goal.join_seat-requires
join_seat-requires c = (search rules, search rules, search rules, search rules, joins_step _ _ _ _ _)
