use Rattle.std.proofs.Common.{◌≡◌, ℕ, ◌-◌, ◌<◌, ◌≤◌, true, false, slice_index_or}
use Rattle.vub_core.proofs.spans.end_of_run.Given as goal

abbrev pub invariant-loop-end : goal.invariant-loop-end
invariant-loop-end l = (l.start < l.end) × (l.end ≤ l.len) × ((place : ℕ) → l.start ≤ place → place < l.end → slice_index_or l.flags place false ≡ true)

abbrev pub decreases-loop-end : goal.decreases-loop-end
decreases-loop-end l = l.len - l.end
