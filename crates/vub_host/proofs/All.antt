-- Without a mask no event is left out.
use Rattle.std.proofs.Common.{◌≡◌, List, [], ◌∷◌, None, refl, ap}
use Rattle.vub_host.specs.declared.epoll.EpollEvent.{EpollEvent}
use Rattle.vub_host.specs.PollEvents.{meeting}

pub all_meet : (events : List EpollEvent) → meeting None events ≡ events
all_meet [] = refl
all_meet (event ∷ events) = ap (λ (l : List EpollEvent). event ∷ l) (all_meet events)
