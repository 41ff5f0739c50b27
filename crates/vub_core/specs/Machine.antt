-- The world that the machine keeps: the machine has all of it but the set-up's lists and the service's value.
use Rattle.std.specs.Prelude.{map, drop}
use Rattle.vub_model.specs.declared.setup.Setup.{Setup}
use Rattle.vub_model.specs.Control.{Control, begun}
use Rattle.vub_model.specs.World.{World}
use Rattle.vub_vring.specs.Store.{shared_of}
use Rattle.vub_loop.specs.Handler.{phase_of}
use Rattle.vub_plan.specs.Halves.{plan_at}
use Rattle.vub_core.specs.declared.machine.Machine.{Machine}

-- control as the machine has it, whose next request begins only at its own turn
abbrev pub control_of : Setup → Machine → Control
control_of setup m =
    record {
      session = m.handler.session;
      plan = plan_at m.store.memory.guest.regions m.half;
      requests = drop m.asked setup.requests;
      answers = m.answers.items;
    }

-- the same with the next request begun, if it is due
abbrev pub begun_of : Setup → Machine → Control
begun_of setup m = begun m.handler.wiring (shared_of m.store (tt {0})) (control_of setup m)

abbrev pub world_of : {V : Type 0} → Setup → Machine → V → World V
world_of setup m v =
    record {
      shared = shared_of m.store v;
      wiring = m.handler.wiring;
      phases = map (λ w. phase_of w) m.workers.items;
      guest = drop m.acted setup.guest;
      control = begun_of setup m;
      takes = m.records.takes.items;
      uses = m.records.uses.items;
      written = m.records.written;
      harvests = m.records.harvests.items;
    }

-- the same with a service of no state
abbrev pub opened_world : Setup → Machine → World (Unit {0})
opened_world setup m = world_of setup m (tt {0})
