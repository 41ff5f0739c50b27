-- The causes of a daemon's errors: counts of refusals of its spawner and of its link, and the device's greatest size.
use Rattle.std.specs.Prelude.{◌≡◌, ◌⊎◌, ℕ, true, false, Option, None, Some, Result, Ok, Err}
use Rattle.vub_base.specs.Causes.{Rose}
use Rattle.vub_queue.specs.declared.error.QueueError.TheVariants.{InvalidMaxSize}
use Rattle.vub_handler.specs.declared.error.VhostUserHandlerError.TheVariants as handler
use Rattle.vub_handler.specs.Opening.{is_greatest_size}
use Rattle.vub_daemon.specs.declared.error.Error.{Error}
use Rattle.vub_daemon.specs.declared.error.Error.TheVariants as error
use Rattle.vub_daemon.specs.declared.starting.Unstarted.{Unstarted}
use Rattle.vub_daemon.specs.declared.starting.Unstarted.TheVariants as unstarted
use Rattle.vub_daemon.specs.Verdicts.{IsServed}

-- Why a daemon was not made: the greatest size is no power of two from 1 to 32768; a worker was not started, and the
-- spawner's count rose; or want of memory.
abbrev pub IsMakingError : ℕ → ℕ → ℕ → Error → Type 0
IsMakingError max before now (error.NewVhostUserHandler (handler.CreateVring e)) =
    (is_greatest_size max ≡ false) × (e ≡ InvalidMaxSize)
IsMakingError max before now (error.NewVhostUserHandler handler.SpawnVringWorker) =
    (is_greatest_size max ≡ true) × Rose before now
IsMakingError max before now error.OutOfMemory = Unit {0}
IsMakingError max before now e = ⊥

-- why the parts of a daemon were not made
abbrev pub IsOpeningError : ℕ → Error → Type 0
IsOpeningError max (error.NewVhostUserHandler (handler.CreateVring e)) =
    (is_greatest_size max ≡ false) × (e ≡ InvalidMaxSize)
IsOpeningError max error.OutOfMemory = Unit {0}
IsOpeningError max e = ⊥

-- why a worker was not started
abbrev pub IsWorkerError : ℕ → ℕ → Error → Type 0
IsWorkerError before now (error.NewVhostUserHandler handler.SpawnVringWorker) = Rose before now
IsWorkerError before now error.OutOfMemory = Unit {0}
IsWorkerError before now e = ⊥

-- the counts of refusals of a link and of a spawner
pub record Counts : Type 0 where
  pub link : ℕ
  pub spawner : ℕ

-- why a control thread was not started: the link could not be opened, and its count rose; the thread was not started,
-- and the spawner's count rose; or want of memory
abbrev pub IsUnstarted : Counts → Counts → Unstarted → Type 0
IsUnstarted before now unstarted.Link = Rose before.link now.link
IsUnstarted before now unstarted.Thread = Rose before.spawner now.spawner
IsUnstarted before now unstarted.Memory = Unit {0}

-- the same, as an error, where `unopened` is the word for a link that can't be opened
abbrev pub IsStartError : Error → Counts → Counts → Error → Type 0
IsStartError unopened before now e =
    ((e ≡ unopened) × Rose before.link now.link) ⊎ ((e ≡ error.StartDaemon) × Rose before.spawner now.spawner)
    ⊎ (e ≡ error.OutOfMemory)

-- What `serve` answers: the verdict for what its `wait` answered; or the control thread was not started, and the link
-- is handed back.
abbrev pub Serves : {K : Type 0} → Counts → (K → ℕ) → ℕ → Result (Unit {0}) (Error × Option K) → Type 0
Serves before count spawner (Ok done) = IsServed (Ok done)
Serves before count spawner (Err (e, None)) = IsServed (Err e)
Serves before count spawner (Err (e, Some k)) =
    IsStartError error.CreateVhostUserListener before (record { link = count k; spawner = spawner }) e
