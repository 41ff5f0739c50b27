-- The workers of a session, for whoever gives them listeners or ends them.
use Rattle.std.specs.Prelude.{◌≡◌, ℕ, List, [], ◌∷◌}
use Rattle.vub_model.specs.declared.wiring.Opened.{Opened}
use Rattle.vub_model.specs.Shared.{Shared, raised_or_none}
use Rattle.vub_vring.specs.PartsState.{PartsState, HasFailed, Tells}
use Rattle.vub_loop.specs.declared.listening.EpollHandle.{EpollHandle}
use Rattle.vub_loop.specs.Faults.{RowOrFault}

-- the handle of a worker that was opened so, beside so many queues
abbrev pub handle_for : ℕ → Opened → EpollHandle
handle_for queues w = record { worker = w.worker; list = w.list; exit = w.exit; queues = queues }

-- for each worker in order, 1 is added to the count of its exit object, if it has one, and a full count stays; where the
-- host fails at it, nothing changes
abbrev pub EndsEach : {V : Type 0} → Type 0 → Type 0 → List Opened → Shared V → Shared V → Type 0
EndsEach Sound Rise [] old new = new ≡ old
EndsEach {V} Sound Rise (w ∷ ws) old new =
    (mid : Shared V) × RowOrFault Sound Rise (mid ≡ raised_or_none old w.exit) (mid ≡ old) × EndsEach Sound Rise ws mid new

abbrev pub EndsAll : {V D : Type 0} → List Opened → PartsState V D → PartsState V D → Type 0
EndsAll ws old new = Tells old new (EndsEach old.NeverFails (HasFailed old new) ws)
