-- What a wait writes is what the host told of the ready members.
use Rattle.std.proofs.Common.{ℕ, zero, suc, ◌≡◌, List, [], ◌∷◌, map, take, Option, Some, None, Ok, ◌∙◌, refl, ap}
use Rattle.std.specs.declared.vec.Vec.{Vec}
use Rattle.std.specs.declared.alloc.Global.{Global}
use Rattle.vub_base.specs.Told.{Told}
use Rattle.vub_event.specs.declared.ready.Ready.{Ready}
use Rattle.vub_event.specs.HostTable.{HostTable, ready_members}
use Rattle.vub_event.specs.HostCalls.{ReadyManyCall}
use Rattle.vub_host.specs.declared.epoll.EpollEvent.{EpollEvent}
use Rattle.vub_host.specs.Calls.{event_of, PollCall}

told-map : {A : Type 0} (a b : Option A) (P Q : A → A → Type 0) → ((x y : A) → P x y → Q x y) → Told a b P → Told a b Q
told-map None b P Q so told = tt
told-map (Some x) None P Q so told = told
told-map (Some x) (Some y) P Q so told = so x y told

take-twice : (n : ℕ) (xs : List Ready) → take n (take n xs) ≡ take n xs
take-twice zero xs = refl
take-twice (suc n) [] = refl
take-twice (suc n) (x ∷ xs) = ap (λ (l : List Ready). x ∷ l) (take-twice n xs)

pub polled : {T : Type 0} (events : T → List EpollEvent) (p : T) (list : ℕ) (ready : Vec Ready Global) (a b : Option HostTable)
    → events p ≡ map event_of (take 16 ready.items) → Told a b (ReadyManyCall list 16 (Ok ready)) → Told a b (PollCall events list (Ok p))
polled events p list ready a b is told =
    told-map a b (ReadyManyCall list 16 (Ok ready)) (PollCall events list (Ok p))
    (λ old new call. (
      call.0,
      is ∙ ap (λ (l : List Ready). map event_of (take 16 l)) call.1 ∙ ap (λ (l : List Ready). map event_of l) (take-twice 16 (ready_members old list)),
      call.2,
    )) told
