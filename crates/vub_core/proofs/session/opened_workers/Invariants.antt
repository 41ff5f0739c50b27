use Rattle.std.proofs.Common.{◌≡◌, map}
use Rattle.std.specs.List.{range_with_len}
use Rattle.vub_model.specs.Opening.{opened_worker}
use Rattle.vub_core.proofs.session.opened_workers.Given as goal

abbrev pub invariant-loop-worker : goal.invariant-loop-worker
invariant-loop-worker l = l.list.items ≡ map (λ w. opened_worker l.count l.constants.exits w) (range_with_len 0 l.worker)
