use Rattle.std.proofs.Common.{◌≡◌, ◌-◌, ◌++◌}
use Rattle.std.specs.List.{repeat}
use Rattle.vub_script.proofs.write_out.push_rounds.Given as goal

abbrev pub invariant-loop : goal.invariant-loop
invariant-loop l = l.schedule.items ++ repeat (l.rounds - l.counter) l.turns ≡ l.fn.schedule.items ++ repeat l.rounds l.turns
