use Rattle.std.proofs.Common.{◌≡◌, map, take}
use Rattle.vub_model.specs.RunRecords.{log_bytes}
use Rattle.vub_core.proofs.logs.logs_of.Given as goal

-- the logs so far
abbrev pub invariant-loop-stored : goal.invariant-loop-stored
invariant-loop-stored l =
    record {
      all : l.all.items ≡ map log_bytes (take l.stored-index l.logs);
    }
