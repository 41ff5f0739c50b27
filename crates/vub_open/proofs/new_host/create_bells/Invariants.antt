use Rattle.std.proofs.Common.{◌≡◌, ◌++◌, map, take, Some}
use Rattle.vub_event.specs.HostCalls.{new_event}
use Rattle.vub_open.specs.Hosts.{NeverFails}
use Rattle.vub_open.proofs.new_host.create_bells.Given as goal

abbrev pub invariant-loop-mask : goal.invariant-loop-mask
invariant-loop-mask l =
    record {
      objects : l.host.table.objects ≡ l.initial.host.table.objects ++ map (λ mask. Some (new_event 0)) (take l._mask-index l.masks);
      lists : l.host.table.lists ≡ l.initial.host.table.lists;
      sound : NeverFails l.host;
    }
