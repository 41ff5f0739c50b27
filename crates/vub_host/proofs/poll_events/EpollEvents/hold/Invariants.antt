use Rattle.std.proofs.Common.{◌≡◌, map, take}
use Rattle.vub_host.specs.Calls.{event_of}
use Rattle.vub_host.proofs.poll_events.EpollEvents.hold.Given as goal

abbrev pub invariant-loop-place : goal.invariant-loop-place
invariant-loop-place l = l.self-inside.events.items ≡ map event_of (take l.place l.ready)
