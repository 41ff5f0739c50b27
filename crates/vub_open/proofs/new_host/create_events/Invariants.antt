use Rattle.std.proofs.Common.{◌≡◌, ◌++◌, map, take, Some}
use Rattle.vub_event.specs.HostCalls.{new_event}
use Rattle.vub_model.specs.Opening.{flags_of}
use Rattle.vub_open.specs.Hosts.{NeverFails}
use Rattle.vub_open.proofs.new_host.create_events.Given as goal

abbrev pub invariant-loop-object : goal.invariant-loop-object
invariant-loop-object l =
    record {
      objects : l.host.table.objects ≡ l.initial.host.table.objects ++ map (λ o. Some (new_event (flags_of o))) (take l.object-index l.objects);
      lists : l.host.table.lists ≡ l.initial.host.table.lists;
      sound : NeverFails l.host;
    }
