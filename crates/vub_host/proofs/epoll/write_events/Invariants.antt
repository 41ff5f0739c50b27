use Rattle.std.proofs.Common.{◌≡◌, ◌++◌, map, take, drop}
use Rattle.vub_host.specs.Calls.{event_of}
use Rattle.vub_host.proofs.epoll.write_events.Given as goal

abbrev pub invariant-loop-place : goal.invariant-loop-place
invariant-loop-place l = l.events ≡ map event_of (take l.place l.ready) ++ drop l.place l.initial.events
