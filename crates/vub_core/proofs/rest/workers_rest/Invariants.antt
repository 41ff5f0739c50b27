use Rattle.std.proofs.Common.{◌≡◌, take, true, []}
use Rattle.std.specs.List.{list_all}
use Rattle.vub_loop.specs.Handler.{phase_of}
use Rattle.vub_core.specs.Rest.{rests_in}
use Rattle.vub_core.proofs.rest.workers_rest.Given as goal

abbrev pub invariant-loop-worker : goal.invariant-loop-worker
invariant-loop-worker l =
    (l.host.plan.calls.items ≡ [])
    × (l.host.table ≡ l.initial.host.table)
    × (list_all (λ w. rests_in l.initial.host.table w.opened.list (phase_of w)) (take l.worker-index l.workers) ≡ true)
