use Rattle.std.proofs.Common.{◌<◌, length, ap, ◌∙◌, arith}
use Rattle.vub_model.specs.Opening.{opened_worker, opening_members}
use Rattle.vub_open.proofs.NewLists.{lists_next}
use Rattle.vub_open.proofs.HostTakes.{exit-opened, bell-opened, apart-opened}
use Rattle.vub_open.proofs.new_host.open_lists.Goals as goal

pub loop-worker-preserved : goal.loop-worker-preserved
loop-worker-preserved c =
    let k = c.args.constants.now in
    record {
      lists = lists_next (λ w. opening_members k.queues w) (λ w. opened_worker c.args.count k.exits w) c.loop-worker.worker _ _ c.opened_worker-opened.result c.loop-worker.invariant.lists (c.opened_worker-opened.ensures ∙ ap (λ exits. opened_worker c.args.count exits c.loop-worker.worker) c.as_slice.ensures) (ap (λ t. t.lists) c.in_ok-open_list.ensures.table);
      objects = ap (λ t. t.objects) c.in_ok-open_list.ensures.table ∙ c.loop-worker.invariant.objects;
      sound = c.open_list.ensures.sound;
    }

pub open_list-requires-clause-exit : goal.open_list-requires-clause-exit
open_list-requires-clause-exit c =
    let k = c.args.constants.now in
    exit-opened k c.args.count c.args.host.now.table c.loop-worker.host.table c.loop-worker.worker c.opened_worker-opened.result (c.opened_worker-opened.ensures ∙ ap (λ exits. opened_worker c.args.count exits c.loop-worker.worker) c.as_slice.ensures) c.requires.exits c.loop-worker.invariant.objects c.requires.there

pub open_list-requires-clause-bell : goal.open_list-requires-clause-bell
open_list-requires-clause-bell c =
    let k = c.args.constants.now in
    let low : c.loop-worker.worker < length k.masks = omega (arith, c.loop-worker-test.true, c.len-worker-end.ensures) in
    bell-opened k c.args.count c.args.host.now.table c.loop-worker.host.table c.loop-worker.worker c.opened_worker-opened.result (c.opened_worker-opened.ensures ∙ ap (λ exits. opened_worker c.args.count exits c.loop-worker.worker) c.as_slice.ensures) low c.loop-worker.invariant.objects c.requires.there

pub open_list-requires-clause-apart : goal.open_list-requires-clause-apart
open_list-requires-clause-apart c =
    let k = c.args.constants.now in
    apart-opened k c.args.count c.loop-worker.worker c.opened_worker-opened.result (c.opened_worker-opened.ensures ∙ ap (λ exits. opened_worker c.args.count exits c.loop-worker.worker) c.as_slice.ensures) c.requires.exits
