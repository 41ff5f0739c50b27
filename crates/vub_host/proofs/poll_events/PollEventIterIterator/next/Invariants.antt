use Rattle.std.proofs.Common.{◌≡◌, ◌≤◌, length}
use Rattle.vub_host.specs.PollEvents.{meeting}
use Rattle.vub_host.proofs.poll_events.PollEventIterIterator.next.Given as goal

abbrev pub invariant-loop-self : goal.invariant-loop-self
invariant-loop-self g l =
    (meeting l.self-inside.mask l.self-inside.events.now
    ≡ meeting l.initial.self-inside.mask l.initial.self-inside.events.now)
    × (length l.self-inside.events.now ≤ 16)

abbrev pub decreases-loop-self : goal.decreases-loop-self
decreases-loop-self g l = length l.self-inside.events.now
