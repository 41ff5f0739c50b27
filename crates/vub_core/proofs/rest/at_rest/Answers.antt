use Rattle.std.proofs.Common.{rules, ◌≡◌, true, false, refl, sym, ap, subst, ◌∙◌, arith}
use Rattle.std.specs.List.{list_all}
use Rattle.vub_model.specs.Control.{Control, StandsStill}
use Rattle.vub_loop.specs.Handler.{phase_of}
use Rattle.vub_core.specs.Machine.{control_of, world_of}
use Rattle.vub_core.specs.Rest.{rests_in}
use Rattle.vub_core.proofs.Rests.{rests-both, rests-none, rests-other, still-for, guest-done, guest-left}
use Rattle.vub_core.proofs.rest.at_rest.Goals as goal

pub returns-then-machine-len-clause-rests : goal.returns-then-machine-len-clause-rests
returns-then-machine-len-clause-rests g c =
    rests-none (world_of c.args.setup.now c.args.machine.now c.args.service.now) false refl
    (guest-left c.args.setup.now.guest c.args.machine.now.acted (omega (arith, c.if-machine-len.true, c.len.ensures)))

pub returns-then-control_rests-clause-rests : goal.returns-then-control_rests-clause-rests
returns-then-control_rests-clause-rests g c =
    let m = c.args.machine.now in
    let w = world_of c.args.setup.now m c.args.service.now in
    let plan = (control_of c.args.setup.now m).plan.steps in
    let S : Control → Type 0 = λ x. StandsStill w.shared x.plan.steps in
    let still : StandsStill w.shared plan = (still-for m.store c.args.service.now plan).0 (c.control_rests.ensures.0 (search rules)) in
    rests-both w m.workers.items c.workers_rest.result c.requires.whole.workers refl
    (guest-done c.args.setup.now.guest m.acted (omega (arith, c.if-machine-len.false, c.len.ensures)))
    (subst S (sym c.requires.begun) still)
    (c.workers_rest.ensures.value ∙ ap (λ ws. list_all (λ h. rests_in m.store.host.table h.opened.list (phase_of h)) ws) c.deref.ensures.value)

pub returns-else-control_rests-clause-rests : goal.returns-else-control_rests-clause-rests
returns-else-control_rests-clause-rests g c =
    let m = c.args.machine.now in
    let w = world_of c.args.setup.now m c.args.service.now in
    let S : Control → Type 0 = λ x. StandsStill w.shared x.plan.steps in
    let plan = (control_of c.args.setup.now m).plan.steps in
    let no : c.control_rests.result ≡ false = search rules in
    rests-other w c.control_rests.result no
    (λ still. let yes : c.control_rests.result ≡ true = c.control_rests.ensures.1 ((still-for m.store c.args.service.now plan).1 (subst S c.requires.begun still)) in
    let bad : true ≡ false = sym yes ∙ no in
    absurd cc)
