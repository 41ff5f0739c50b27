use Rattle.std.proofs.Common.{◌≡◌, ◌++◌, map, take, drop, arith}
use Rattle.vub_host.specs.Calls.{event_of}
use Rattle.vub_host.proofs.Writing.{event-written}
use Rattle.vub_host.proofs.epoll.write_events.Goals as goal

pub loop-place-preserved : goal.loop-place-preserved
loop-place-preserved c =
    let so_far : c.loop-place.events ≡ map event_of (take c.loop-place.place c.args.ready.now) ++ drop c.loop-place.place c.args.events.now = c.loop-place.invariant in
    rw so_far (event-written c.args.ready.now c.args.events.now c.loop-place.place _ (omega arith) (omega arith))
