use Rattle.std.proofs.Common.{◌≡◌, ◌-◌, ◌++◌}
use Rattle.std.specs.List.{range_with_len}
use Rattle.vub_talk.proofs.schedule.push_round.Given as goal

abbrev pub invariant-loop-party : goal.invariant-loop-party
invariant-loop-party l = l.turns.items ++ range_with_len l.party (l.parties - l.party) ≡ l.initial.turns.items ++ range_with_len 0 l.parties
