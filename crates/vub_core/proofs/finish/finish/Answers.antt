use Rattle.std.proofs.Common.{◌↔◌, IsTrue, List, map, ap, subst, ◌∙◌}
use Rattle.vub_model.specs.declared.setup.Object.{Object}
use Rattle.vub_model.specs.RunOf.{IsAtRest}
use Rattle.vub_model.specs.RunRecords.{stops_from, counts_from, spans_from, log_bytes}
use Rattle.vub_model.specs.World.{World}
use Rattle.vub_loop.specs.Handler.{phase_of}
use Rattle.vub_core.proofs.Controlled.{world-begun}
use Rattle.vub_core.proofs.finish.finish.Goals as goal

pub returns : goal.returns
returns g c made is =
    let s = c.args.setup.now in
    let kept = c.begin_next.ensures.kept in
    let begun = c.in_ok-begin_next.ensures.begun in
    let before = world-begun s c.args.machine c.begin_next.new.machine c.args.service.now begun kept in
    let same = c.at_rest-rest.ensures.same ∙ before in
    let rests : World g.row.V.Denot → Type 0 = λ w. IsTrue c.at_rest-rest.result ↔ IsAtRest w in
    let objects = c.as_slice-objects.ensures in
    record {
      labels_are = c.from_vec.ensures;
      answers_are = c.from_vec-2.ensures ∙ ap (λ x. x.items) c.at_rest-rest.ensures.answers ∙ ap (λ x. x.answers) begun.begun;
      device_is = c.from_vec-3.ensures ∙ ap (λ x. x.items) c.at_rest-rest.ensures.calls ∙ ap (λ x. x.items) kept.calls ∙ is;
      takes_are = c.from_vec-4.ensures ∙ ap (λ x. x.takes) same;
      uses_are = c.from_vec-5.ensures ∙ ap (λ x. x.uses) same;
      stops_are = c.from_vec-6.ensures ∙ c.in_ok-stops.ensures ∙ ap (λ ws. stops_from 0 (map (λ h. phase_of h) ws)) (c.deref.ensures.value ∙ ap (λ x. x.items) (c.at_rest-rest.ensures.workers ∙ kept.workers));
      counts_are = c.from_vec-7.ensures ∙ c.in_ok-counts.ensures ∙ ap (λ (os : List Object). counts_from c.at_rest-rest.new.machine.store.host.table 0 os) objects ∙ ap (λ x. counts_from x.shared.table 0 s.objects) same;
      written_is = c.from_vec-8.ensures ∙ c.in_ok-written.ensures ∙ ap (λ (os : List Object). spans_from c.at_rest-rest.new.machine.records.written c.at_rest-rest.new.machine.store.memory.guest 0 os) objects ∙ ap (λ x. spans_from x.written x.shared.guest 0 s.objects) same;
      logs_are = c.from_vec-9.ensures ∙ c.in_ok-logs.ensures ∙ ap (λ ss. map log_bytes ss) c.logs.ensures ∙ ap (λ x. map log_bytes x.shared.logs) same;
      harvests_are = c.from_vec-10.ensures ∙ ap (λ x. x.harvests) same;
      rests = subst rests before c.at_rest-rest.ensures.rests;
    }
