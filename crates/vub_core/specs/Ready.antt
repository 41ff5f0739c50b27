-- What control and guest rely on at their turns.
use Rattle.std.specs.Prelude.{List, [], ◌∷◌, drop}
use Rattle.std.specs.List.{AllByRecursion}
use Rattle.vub_event.specs.HostTable.{HostTable}
use Rattle.vub_log.specs.Plain.{Plain}
use Rattle.vub_mem.specs.declared.dirty.Stored.{Stored}
use Rattle.vub_model.specs.declared.setup.Guest.{Guest}
use Rattle.vub_model.specs.declared.setup.Setup.{Setup}
use Rattle.vub_model.specs.declared.small.Small.{Small}
use Rattle.vub_model.specs.Frame.{frame_of}
use Rattle.vub_model.specs.Schedule.{NamesThere}
use Rattle.vub_model.specs.Wiring.{Wiring}
use Rattle.vub_vring.specs.Store.{shared_of, MayAct}
use Rattle.vub_handler.specs.Acting.{IsNamed}
use Rattle.vub_core.specs.declared.machine.Machine.{Machine}
use Rattle.vub_core.specs.Machine.{begun_of}

-- the event and the list that the first step names are there
abbrev pub FirstIsNamed : Wiring → HostTable → List Small → Type 0
FirstIsNamed g t [] = Unit {0}
FirstIsNamed g t (s ∷ rest) = IsNamed g t s

-- the events that a set-up's requests name are there
abbrev pub RequestsName : Setup → Machine → Type 0
RequestsName setup m = AllByRecursion (NamesThere (frame_of (shared_of m.store (tt {0}))).events) setup.requests

-- the guest's next action, if it is a harvest, may be made
abbrev pub NextMayAct : List (Stored Plain) → List Guest → Type 0
NextMayAct logs [] = Unit {0}
NextMayAct logs (action ∷ actions) = MayAct logs action

-- and what the next step names; and the guest's next action may be made
pub record IsReady (setup : Setup) (m : Machine) : Type 0 where
  pub requests : RequestsName setup m
  pub first : FirstIsNamed m.handler.wiring m.store.host.table (begun_of setup m).plan.steps
  pub acts : NextMayAct m.store.memory.logs (drop m.acted setup.guest)
