-- What a worker is made of, by the wiring.
use Rattle.std.specs.Prelude.{◌≡◌, ℕ, Option, None, slice_index_or}
use Rattle.vub_model.specs.declared.constants.Constants.{Constants}
use Rattle.vub_model.specs.declared.phase.Phase.{Phase}
use Rattle.vub_model.specs.declared.phase.Phase.TheVariants.{Idle}
use Rattle.vub_model.specs.declared.wiring.Opened.{Opened}
use Rattle.vub_model.specs.Wiring.{Wiring, opened_at, queues_of, queues_in}
use Rattle.vub_model.specs.Shared.{Shared}
use Rattle.vub_vring.specs.Worker.{OpensFor}
use Rattle.vub_loop.specs.Worker.{Worker}

-- where the worker stands
abbrev pub phase_of : Worker → Phase
phase_of h = h.phase

-- it is the worker of this number: it was opened as the wiring has it, and lists the queues of its mask
pub record IsHandler (g : Wiring) (worker : ℕ) (h : Worker) : Type 0 where
  pub number : h.opened.worker ≡ worker
  pub opened : h.opened ≡ opened_at g worker
  pub queues : h.queues ≡ queues_of g worker
  pub count : h.count ≡ g.queues

-- a step changes neither of these
pub record SameWorker (old new : Worker) : Type 0 where
  pub opened : new.opened ≡ old.opened
  pub queues : new.queues ≡ old.queues
  pub count : new.count ≡ old.count

-- a worker that was opened, before its first step
abbrev pub new_handler : Constants → Opened → Worker
new_handler constants opened =
    let mask = slice_index_or constants.masks opened.worker 0 in
    let queues = queues_in constants.queues mask in
    record { opened = opened; queues = queues; count = constants.queues; phase = Idle; finished = None }

-- the same where the constants are not told: it is idle, was opened like this, and used nothing
pub record IsNew (given : Opened) (h : Worker) : Type 0 where
  pub opened : h.opened ≡ given
  pub phase : h.phase ≡ Idle
  pub finished : h.finished ≡ None

-- The worker of this number was opened by these constants, and stands before its first step.
abbrev pub IsOpened : {V : Type 0} → Constants → ℕ → Worker → Option (Shared V) → Option (Shared V) → Type 0
IsOpened constants worker h old new = (h ≡ new_handler constants h.opened) × OpensFor constants worker h.opened old new
