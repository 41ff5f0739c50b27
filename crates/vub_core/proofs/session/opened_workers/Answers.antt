use Rattle.std.proofs.Common.{◌≡◌, length, map, ap, ◌∙◌, arith}
use Rattle.std.specs.List.{range_with_len}
use Rattle.vub_model.specs.Opening.{opened_worker}
use Rattle.vub_open.proofs.NewRings.{made_next}
use Rattle.vub_core.proofs.session.opened_workers.Goals as goal

pub loop-worker-preserved : goal.loop-worker-preserved
loop-worker-preserved c =
    let k = c.args.constants.now in
    made_next (λ w. opened_worker c.args.count k.exits w) c.loop-worker.worker _ _ _ c.loop-worker.invariant
    (c.opened_worker.ensures ∙ ap (λ exits. opened_worker c.args.count exits c.loop-worker.worker) c.as_slice.ensures)
    c.in_ok-push.ensures.items

pub returns : goal.returns
returns c =
    let k = c.args.constants.now in
    let all : c.loop-worker.worker ≡ length k.masks = omega arith in
    c.loop-worker.invariant ∙ ap (λ n. map (λ w. opened_worker c.args.count k.exits w) (range_with_len 0 n)) all
