use Rattle.std.proofs.Common.{◌≡◌, length, ap, ◌∙◌, arith}
use Rattle.vub_loop.specs.Handler.{new_handler}
use Rattle.vub_model.specs.Opening.{opened_worker}
use Rattle.vub_open.proofs.NewRings.{made_next}
use Rattle.vub_core.proofs.OpenedWorkers.{workers_made, phases_made}
use Rattle.vub_core.proofs.opening.open_handlers.Goals as goal

pub loop-worker-preserved : goal.loop-worker-preserved
loop-worker-preserved c =
    let k = c.args.constants.now in
    made_next (λ w. new_handler k (opened_worker c.args.count k.exits w)) c.loop-worker.worker _ _ c.in_ok-handler.handler c.loop-worker.invariant
    (c.in_ok-handler.ensures ∙ ap (λ o. new_handler k o) (c.opened_worker-opened.ensures ∙ ap (λ exits. opened_worker c.args.count exits c.loop-worker.worker) c.as_slice.ensures))
    c.in_ok-push.ensures.items

pub returns-clause-workers : goal.returns-clause-workers
returns-clause-workers c =
    let all : c.loop-worker.worker ≡ length c.args.constants.now.masks = omega arith in
    workers_made c.args.constants.now c.args.count c.loop-worker.worker c.loop-worker.handlers.items c.loop-worker.invariant all

pub returns-clause-phases : goal.returns-clause-phases
returns-clause-phases c =
    let all : c.loop-worker.worker ≡ length c.args.constants.now.masks = omega arith in
    phases_made c.args.constants.now c.args.count c.loop-worker.worker c.loop-worker.handlers.items c.loop-worker.invariant all
