use Rattle.std.proofs.Common.{◌≡◌, [], ◌∷◌, ◌++◌, map, Option, None, refl, sym, ap, subst, ◌∙◌}
use Rattle.std.specs.Option.{option_to_list}
use Rattle.vub_model.specs.declared.label.Label.TheVariants.{Pass}
use Rattle.vub_model.specs.DeviceCalls.{device_call}
use Rattle.vub_plan.specs.Halves.{plan_at}
use Rattle.vub_handler.specs.declared.played.Played.{Played}
use Rattle.vub_vring.specs.declared.store.Store.{Store}
use Rattle.vub_vring.specs.Store.{shared_of}
use Rattle.vub_core.specs.declared.machine.Machine.{Machine}
use Rattle.vub_core.specs.DeviceRun.{state_by, telling_by}
use Rattle.vub_core.specs.Meanings.{meaning_by}
use Rattle.vub_handler.specs.Acting.{called}
use Rattle.vub_core.specs.Session.{Sitting, PlaysStep, IsPlayedStep, asked_first}
use Rattle.vub_core.proofs.Controlled.{step-turned, still-turned, asked-is}
use Rattle.vub_core.proofs.control.control_turn.Goals as goal

pub returns-in-None-clause-turned : goal.returns-in-None-clause-turned
returns-in-None-clause-turned g c =
    let m = meaning_by g.V.Service in
    let t = telling_by g.D.VhostUserBackendMut in
    let d = state_by g.D.VhostUserBackendMut c.args.device.now in
    let e = state_by g.D.VhostUserBackendMut c.play_step.new.device in
    let mid = c.begin_next.new.machine in
    let before : Sitting = record { player = mid.handler; half = mid.half } in
    let now : Sitting = record { player = c.play_step.new.handler; half = c.play_step.new.half } in
    let P : Option Played → Type 0 = λ o. PlaysStep t before now (shared_of mid.store c.args.service.now) (shared_of c.play_step.new.store c.play_step.new.service) d e o in
    let still : P None = subst P c.in-None.is c.in_ok-play_step.ensures.row in
    let new : Machine = record {
      store = c.play_step.new.store;
      handler = c.play_step.new.handler;
      half = c.play_step.new.half;
      asked = mid.asked;
      answers = c.reserve.new.self;
      calls = c.reserve-2.new.self;
      workers = mid.workers;
      acted = mid.acted;
      records = mid.records;
    } in
    still-turned m t c.args.setup.now c.args.machine.now mid new c.args.service.now c.play_step.new.service c.in_ok-begin_next.ensures.begun c.begin_next.ensures.kept d e
    refl refl refl refl Pass c.reserve-2.new.self.items still refl c.reserve.ensures.items (c.reserve-2.ensures.items ∙ ap (λ cs. cs.items) c.begin_next.ensures.kept.calls)

pub returns-in-Some-clause-turned : goal.returns-in-Some-clause-turned
returns-in-Some-clause-turned g c =
    let m = meaning_by g.V.Service in
    let t = telling_by g.D.VhostUserBackendMut in
    let d = state_by g.D.VhostUserBackendMut c.args.device.now in
    let e = state_by g.D.VhostUserBackendMut c.play_step.new.device in
    let mid = c.begin_next.new.machine in
    let p = c.in-Some.played in
    let h = shared_of mid.store c.args.service.now in
    let before : Sitting = record { player = mid.handler; half = mid.half } in
    let now : Sitting = record { player = c.play_step.new.handler; half = c.play_step.new.half } in
    let z = c.play_step.new.service in
    let new = c.record_step.new.machine in
    let P : Option Played → Type 0 = λ o. PlaysStep t before now h (shared_of c.play_step.new.store z) d e o in
    let S : Store → Type 0 = λ s. IsPlayedStep t before now h (shared_of s z) d e p in
    let N : Sitting → Type 0 = λ s. IsPlayedStep t before s h (shared_of new.store z) d e p in
    let stored = subst S (sym c.record_step.ensures.store) (subst P c.in-Some.is c.in_ok-play_step.ensures.row) in
    let handled = subst (λ x. N (record now { player = x })) (sym c.record_step.ensures.handler) stored in
    let step = subst (λ x. N (record { player = new.handler; half = x })) (sym c.record_step.ensures.half) handled in
    let asked : c.in_ok-asked.asked ≡ asked_first (p.small ∷ []) = c.in_ok-asked.ensures mid.store.memory.guest.regions ∙ asked-is h (plan_at mid.store.memory.guest.regions mid.half).steps p.small step.said step.row.may in
    let calls : new.calls.items ≡ c.args.machine.now.calls.items ++ map device_call (called p.small step.said) =
    c.record_step.ensures.calls step.said asked step.refused
    ∙ ap (λ cs. cs ++ map device_call (called p.small step.said)) (c.reserve-2.ensures.items ∙ ap (λ cs. cs.items) c.begin_next.ensures.kept.calls) in
    step-turned m t c.args.setup.now c.args.machine.now mid new c.args.service.now z c.in_ok-begin_next.ensures.begun c.begin_next.ensures.kept d e
    c.record_step.ensures.workers c.record_step.ensures.acted c.record_step.ensures.records c.record_step.ensures.asked
    c.record_step.result new.calls.items p step c.record_step.ensures.label
    (c.record_step.ensures.answers ∙ ap (λ x. x ++ option_to_list p.answer) c.reserve.ensures.items) calls
