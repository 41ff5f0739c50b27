use Rattle.std.proofs.Common.{◌≡◌, map}
use Rattle.std.specs.List.{range_with_len}
use Rattle.vub_model.specs.Opening.{opened_worker, opening_members}
use Rattle.vub_open.specs.Hosts.{NeverFails}
use Rattle.vub_open.proofs.new_host.open_lists.Given as goal

abbrev pub invariant-loop-worker : goal.invariant-loop-worker
invariant-loop-worker l =
    record {
      lists : l.host.table.lists ≡ map (λ w. opening_members l.constants.queues w) (map (λ w. opened_worker l.count l.constants.exits w) (range_with_len 0 l.worker));
      objects : l.host.table.objects ≡ l.initial.host.table.objects;
      sound : NeverFails l.host;
    }
