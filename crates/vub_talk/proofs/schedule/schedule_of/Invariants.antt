use Rattle.std.proofs.Common.{◌≡◌, ◌-◌, ◌++◌}
use Rattle.std.specs.List.{range_with_len, repeat}
use Rattle.vub_talk.proofs.schedule.schedule_of.Given as goal

abbrev pub invariant-loop : goal.invariant-loop
invariant-loop l = l.turns.items ++ repeat (l.rounds - l.counter) (range_with_len 0 l.parties) ≡ repeat l.rounds (range_with_len 0 l.parties)
