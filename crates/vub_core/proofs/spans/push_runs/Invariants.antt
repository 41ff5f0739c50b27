use Rattle.std.proofs.Common.{◌≡◌, ◌-◌, ◌≤◌, ◌++◌, Bool, List, [], length, drop, slice_index_or}
use Rattle.vub_model.specs.RunRecords.{spans_in}
use Rattle.vub_core.proofs.spans.push_runs.Given as goal

abbrev pub invariant-loop-at : goal.invariant-loop-at
invariant-loop-at l =
    (l.at ≤ length l.content)
    × ((all : List (List Bool)) → slice_index_or all l.object [] ≡ l.flags → l.spans.items ++ spans_in all l.object l.at (drop l.at l.content) ≡ l.initial.spans.items ++ spans_in all l.object 0 l.content)

abbrev pub decreases-loop-at : goal.decreases-loop-at
decreases-loop-at l = length l.content - l.at
