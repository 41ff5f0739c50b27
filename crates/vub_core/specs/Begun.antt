-- What beginning the next request does to a machine.
use Rattle.std.specs.Prelude.{◌≡◌}
use Rattle.vub_model.specs.declared.setup.Setup.{Setup}
use Rattle.vub_core.specs.declared.machine.Machine.{Machine}
use Rattle.vub_core.specs.Machine.{control_of, begun_of}

-- the next request is begun, if it is due, and so the world is the same
pub record HasBegun (setup : Setup) (old new : Machine) : Type 0 where
  pub begun : control_of setup new ≡ begun_of setup old
  pub world : begun_of setup new ≡ begun_of setup old

-- no other part has changed
pub record KeepsParts (old new : Machine) : Type 0 where
  pub store : new.store ≡ old.store
  pub handler : new.handler ≡ old.handler
  pub answers : new.answers ≡ old.answers
  pub calls : new.calls ≡ old.calls
  pub workers : new.workers ≡ old.workers
  pub acted : new.acted ≡ old.acted
  pub records : new.records ≡ old.records
