-- A session over new workers: each worker is opened over what the one before it left.
use Rattle.std.specs.Prelude.{◌≡◌, ℕ, suc, Bool, true, false, ◌&&◌, nat_le, List, [], ◌∷◌, length, Result, Ok, Err}
use Rattle.std.specs.Int.{is_power_of_two}
use Rattle.std.specs.Option.{ForSome}
use Rattle.vub_base.specs.Causes.{Rose}
use Rattle.vub_queue.specs.declared.error.QueueError.TheVariants.{InvalidMaxSize}
use Rattle.vub_model.specs.declared.cause.VringEpollError.{VringEpollError}
use Rattle.vub_model.specs.declared.cause.VringEpollError.TheVariants as epoll
use Rattle.vub_model.specs.declared.constants.Constants.{Constants}
use Rattle.vub_model.specs.declared.wiring.Opened.{Opened}
use Rattle.vub_model.specs.Shared.{Shared}
use Rattle.vub_vring.specs.PartsState.{PartsState, Tells, Lasts}
use Rattle.vub_vring.specs.Worker.{exit_in, Opens, IsOpeningFault, LeavesMade}
use Rattle.vub_plan.specs.Wires.{wires_of}
use Rattle.vub_handler.specs.declared.error.VhostUserHandlerError.{VhostUserHandlerError}
use Rattle.vub_handler.specs.declared.error.VhostUserHandlerError.TheVariants.{CreateVring, CreateEpollHandler, OutOfMemory}
use Rattle.vub_handler.specs.Player.{Player, new_player}

-- the workers from this number on, by the device's constants
abbrev pub OpensAll : {V : Type 0} → Constants → ℕ → List Opened → Shared V → Shared V → Type 0
OpensAll c worker [] old new = new ≡ old
OpensAll {V} c worker (w ∷ ws) old new =
    (mid : Shared V) × (w.worker ≡ worker) × (w.exit ≡ exit_in c worker) × Opens c.queues w old mid
    × OpensAll c (suc worker) ws mid new

-- the first workers were opened, and one more could not be: what was made of it stays
pub record StopsOpening {V : Type 0} (c : Constants) (e : VringEpollError) (old new : Shared V) : Type 0 where
  pub opened : List Opened
  pub mid : Shared V
  pub before : OpensAll c 0 opened old mid
  pub left : LeavesMade c.queues (exit_in c (length opened)) e mid new

-- what any number of workers that were opened leave of the parts
pub record KeepsParts {V D : Type 0} (old new : PartsState V D) : Type 0 where
  pub device : new.device ≡ old.device
  pub refusals : new.refusals ≡ old.refusals
  pub lasts : Lasts old new

-- these are the first workers, where constants and what is shared are told
pub record OpensFirst {V D : Type 0} (count : ℕ) (opened : List Opened) (old new : PartsState V D) : Type 0 where
  pub workers : ForSome old.constants (λ c. Tells old new (OpensAll c 0 opened))
  pub size : length opened ≡ count
  pub keeps : KeepsParts old new

-- a worker could not be opened
pub record StopsAt {V D : Type 0} (e : VringEpollError) (old new : PartsState V D) : Type 0 where
  pub left : ForSome old.constants (λ c. Tells old new (StopsOpening c e))
  pub cause : IsOpeningFault old.faults new.faults e
  pub sound : old.NeverFails → e ≡ epoll.OutOfMemory
  pub keeps : KeepsParts old new

-- a power of two from 1 to 32768 (virtio 1.2, section 2.7)
abbrev pub is_greatest_size : ℕ → Bool
is_greatest_size n = is_power_of_two n && nat_le n 32768

-- the session of these workers, of which nothing was asked
pub record MakesSession {V D : Type 0} (c : Constants) (made : Player) (old new : PartsState V D) : Type 0 where
  pub opened : List Opened
  pub player : made ≡ new_player (wires_of c opened)
  pub size : length opened ≡ length c.masks
  pub workers : Tells old new (OpensAll c 0 opened)

abbrev pub Makes : {V D : Type 0} → Player → PartsState V D → PartsState V D → Type 0
Makes player old new = ForSome old.constants (λ c. MakesSession c player old new)

-- CreateVring comes exactly where the greatest size is none; want of memory may come before it is looked at
abbrev pub DecidesSize : {T : Type 0} → Result T VhostUserHandlerError → Constants → Type 0
DecidesSize (Ok x) c = is_greatest_size c.max ≡ true
DecidesSize (Err (CreateVring e)) c = (is_greatest_size c.max ≡ false) × (e ≡ InvalidMaxSize)
DecidesSize (Err OutOfMemory) c = Unit {0}
DecidesSize (Err e) c = is_greatest_size c.max ≡ true

-- a worker is named as the cause only where the host's count of faults rose
abbrev pub IsMakingFault : ℕ → ℕ → VhostUserHandlerError → Type 0
IsMakingFault before now (CreateVring e) = Unit {0}
IsMakingFault before now (CreateEpollHandler e) = Rose before now
IsMakingFault before now OutOfMemory = Unit {0}
IsMakingFault before now e = ⊥

-- no worker is named as the cause
abbrev pub NamesNoWorker : VhostUserHandlerError → Type 0
NamesNoWorker (CreateEpollHandler e) = ⊥
NamesNoWorker e = Unit {0}

-- what each error leaves
abbrev pub LeavesOpened : {V : Type 0} → Constants → VhostUserHandlerError → Shared V → Shared V → Type 0
LeavesOpened c (CreateEpollHandler e) old new = StopsOpening c e old new
LeavesOpened c OutOfMemory old new = StopsOpening c epoll.OutOfMemory old new
LeavesOpened c e old new = new ≡ old

-- the error for a worker that could not be opened
abbrev pub unopened : VringEpollError → VhostUserHandlerError
unopened epoll.OutOfMemory = OutOfMemory
unopened e = CreateEpollHandler e

-- No session was made. A sound host is never the cause.
pub record IsUnmade {V D : Type 0} (old new : PartsState V D) (e : VhostUserHandlerError) : Type 0 where
  pub cause : IsMakingFault old.faults new.faults e
  pub sound : old.NeverFails → NamesNoWorker e
  pub left : ForSome old.constants (λ c. Tells old new (LeavesOpened c e))
