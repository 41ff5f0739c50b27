use Rattle.std.proofs.Common.{rules, ◌≡◌, ◌<◌, true, List, length, get_or, refl, sym, ap, subst, ◌∙◌}
use Rattle.std.proofs.lemmas.Bool.{ltb-true}
use Rattle.vub_proto.specs.declared.request.Request.{Request}
use Rattle.vub_plan.specs.Halves.{IsPlanOf}
use Rattle.vub_core.proofs.Beginning.{one-begun}
use Rattle.vub_core.proofs.control.begin_next.Goals as goal

pub returns-in_ok-machine-clause-begun : goal.returns-in_ok-machine-clause-begun
returns-in_ok-machine-clause-begun c =
    let m = c.args.machine.now in
    let rs = c.args.setup.now.requests in
    let d = c.in-Some.request.now in
    let spent : c.is_spent.result ≡ true = search rules in
    let all : c.as_slice.result.now ≡ rs = search rules in
    let within : m.asked < length c.as_slice.result.now = ltb-true m.asked _ (sym c.in-Some.ensures.lookup.0) in
    let W : List Request → Type 0 = λ l. m.asked < length l in
    let here : d ≡ get_or rs m.asked d = c.in-Some.ensures.lookup.1 ∙ ap (λ l. get_or l m.asked d) all in
    let P : Request → Type 0 = λ r. IsPlanOf m.handler.wiring m.handler.known m.handler.session r c.in_ok-machine.field-0 in
    one-begun c.args.setup.now m _ c.in_ok-machine.field-0 d (sym spent ∙ c.is_spent.ensures m.store.memory.guest.regions) (subst W all within) c.requires.known c.requires.names
    (subst P here c.in_ok-machine.ensures)
    (record { store = refl; handler = refl; answers = refl; calls = refl; workers = refl; acted = refl; records = refl }) refl refl
