-- What holds of a machine between turns.
use Rattle.std.specs.Prelude.{◌≡◌, map}
use Rattle.vub_model.specs.Frame.{known_of}
use Rattle.vub_open.specs.Hosts.{NeverFails}
use Rattle.vub_core.specs.declared.machine.Machine.{Machine}
use Rattle.vub_core.specs.Workers.{AreHandlers}

-- Its workers are those of the wiring, no call of its host is to fail, and the session knows the kicks and flags of the
-- rings.
pub record IsWhole (m : Machine) : Type 0 where
  pub workers : AreHandlers m.handler.wiring 0 m.workers.items
  pub sound : NeverFails m.store.host
  pub known : m.handler.known ≡ map known_of m.store.rings.items
