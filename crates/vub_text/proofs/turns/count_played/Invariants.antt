use Rattle.std.proofs.Common.{◌≡◌, ◌≤◌, take, count_by}
use Rattle.vub_text.specs.Lines.{is_played}
use Rattle.vub_text.proofs.turns.count_played.Given as goal

abbrev pub invariant-loop-label : goal.invariant-loop-label
invariant-loop-label l = (l.count ≡ count_by is_played (take l.label-index l.labels)) × (l.count ≤ l.label-index)
