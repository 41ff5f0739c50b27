use Rattle.std.proofs.Common.{◌≡◌, ◌<◌, take}
use Rattle.std.specs.List.{AllByRecursion}
use Rattle.vub_model.specs.Opening.{logs_from}
use Rattle.vub_open.proofs.new_logs.open_logs.Given as goal

-- the logs so far, whose numbers are below the next
abbrev pub invariant-loop-number : goal.invariant-loop-number
invariant-loop-number l =
    record {
      below : AllByRecursion (λ s. s.object < l.number) l.memory.logs;
      logs : l.memory.logs ≡ logs_from 0 (take l.number l.objects);
      guest : l.memory.guest ≡ l.initial.memory.guest;
    }
