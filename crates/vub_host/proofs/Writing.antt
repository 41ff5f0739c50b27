-- A list of events whose front is written over, event by event.
use Rattle.std.proofs.Common.{ℕ, zero, suc, ◌+◌, ◌<◌, ◌≡◌, List, [], ◌∷◌, ◌++◌, length, map, take, drop, get_or, set}
use Rattle.std.proofs.Common.{refl, ap, arith}
use Rattle.vub_event.specs.declared.ready.Ready.{Ready}
use Rattle.vub_host.specs.declared.epoll.EpollEvent.{EpollEvent}
use Rattle.vub_host.specs.Calls.{event_of}

-- one more event is written
pub event-written : (ready : List Ready) (to : List EpollEvent) (i : ℕ) (d : Ready) → i < length ready → i < length to
    → set (map event_of (take i ready) ++ drop i to) i (event_of (get_or ready i d))
    ≡ map event_of (take (i + 1) ready) ++ drop (i + 1) to
event-written [] to i d lt room = absurd (omega arith)
event-written (x ∷ ready) [] i d lt room = absurd (omega arith)
event-written (x ∷ ready) (y ∷ to) zero d lt room = refl
event-written (x ∷ ready) (y ∷ to) (suc i) d lt room =
    let step : suc i + 1 ≡ suc (i + 1) = omega arith in
    rw step (ap (λ (l : List EpollEvent). event_of x ∷ l) (event-written ready to i d (omega arith) (omega arith)))
