-- What a wait leaves in the events that are handed to it, and in a poll context.
use Rattle.std.specs.Prelude.{ℕ, ◌+◌, ◌-◌, ◌^◌, if◌then◌else◌, Bool, true, length, List, [], min, Result, Ok, Err, Some}
use Rattle.vub_event.specs.declared.error.HostError.{HostError}
use Rattle.vub_host.specs.declared.epoll.EpollEvent.{EpollEvent}
use Rattle.vub_host.specs.PollEvents.{meeting}

-- a poll context
pub record Poll : Type 0 where
  -- the number of its list
  pub list : ℕ
  -- the events that are held
  pub events : List EpollEvent
  -- whether hang-ups are counted, and how many were since the last accepted add or delete
  pub checks : Bool
  pub hangups : ℕ
  -- how many members it has
  pub members : ℕ

-- a context with no member, over this list
abbrev pub new_poll : ℕ → Poll
new_poll list = record { list = list; events = []; checks = true; hangups = 0; members = 0 }

-- the events after a wait: those that it answers; a refused wait leaves them as they were
abbrev pub events_after_wait : Result (List EpollEvent) HostError → List EpollEvent → List EpollEvent
events_after_wait (Ok polled) before = polled
events_after_wait (Err e) before = before

-- the poll context once a wait answers these events: it holds them, and where checking is on it has counted those that
-- are hung up, bit 0x10, up to the greatest number of 64 bits
abbrev pub holding : Poll → List EpollEvent → Poll
holding poll events = record poll {
  events = events;
  hangups = if poll.checks then min (poll.hangups + length (meeting (Some 0x10) events)) (2 ^ 64 - 1) else poll.hangups;
}

-- the poll context after a wait; a refused wait leaves it as it was
abbrev pub poll_after_wait : Result (List EpollEvent) HostError → Poll → Poll
poll_after_wait (Ok polled) before = holding before polled
poll_after_wait (Err e) before = before
