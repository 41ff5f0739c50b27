use Rattle.std.proofs.Common.{rules}
use Rattle.vub_log.proofs.Seating.{splits_step}
use Rattle.vub_log.proofs.shared.LogSeat.split.Goals as goal

pub split_seat-seat-requires : goal.split_seat-seat-requires
split_seat-seat-requires c = (search rules, search rules, splits_step _ _ _)
