-- Which of the events that a poll answered are gone over, in order.
use Rattle.std.specs.Prelude.{ℕ, Bool, true, ◌==◌, not, List, filter, Option, Some, None}
use Rattle.std.specs.Int.RustNames.{bit_and}
use Rattle.vub_host.specs.declared.epoll.EpollEvent.{EpollEvent}

-- an event meets a mask where it has one of its bits; with no mask each does
abbrev pub is_met : Option ℕ → EpollEvent → Bool
is_met None event = true
is_met (Some mask) event = not (bit_and event.events mask == 0)

abbrev pub meeting : Option ℕ → List EpollEvent → List EpollEvent
meeting mask events = filter (is_met mask) events
