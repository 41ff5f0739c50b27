use Rattle.std.proofs.Common.{map, refl, ap, ◌∙◌}
use Rattle.vub_model.specs.Opening.{unwritten}
use Rattle.vub_core.specs.declared.machine.Machine.{Machine}
use Rattle.vub_core.proofs.OpenedFor.{machine_opens, wiring_opens}
use Rattle.vub_core.proofs.opening.open_machine.Goals as goal

pub returns-clause-world : goal.returns-clause-world
returns-clause-world c =
    let records = c.in_ok-records.ensures in
    let m : Machine = record {
      store = c.in_ok-store.store;
      handler = c.in_ok-handler.handler;
      half = c.in_ok-half.half;
      asked = 0;
      answers = c.new-2.result;
      calls = c.new-3.result;
      workers = c.in_ok-workers.workers;
      acted = 0;
      records = c.in_ok-records.records;
    } in
    machine_opens c.args.constants.now c.args.setup.now m (record {
      shared = c.in_ok-store.ensures.shared;
      phases = c.in_ok-workers.ensures.phases;
      wiring = c.in_ok-handler.ensures.wiring ∙ wiring_opens c.args.constants.now c.args.setup.now;
      session = c.in_ok-handler.ensures.session;
      half = c.in_ok-half.ensures;
      asked = refl;
      answers = c.new-2.ensures.items;
      acted = refl;
      takes = records.takes;
      uses = records.uses;
      written = records.written ∙ ap (λ objects. map unwritten objects) c.as_slice-2.ensures;
      harvests = records.harvests;
    })
