use Rattle.std.proofs.Common.{◌≡◌, ◌+◌, ◌-◌, ◌*◌, map, drop}
use Rattle.serde_json.specs.View.{view}
use Rattle.vub_script.specs.Directory.{each_onto, with_entry, with_entries}
use Rattle.vub_script.proofs.entries.+tree.Given as goal

abbrev pub decreases-with_directory : goal.decreases-with_directory
decreases-with_directory l = 3 * l.depth + 1

abbrev pub decreases-with_entry : goal.decreases-with_entry
decreases-with_entry l = 3 * l.depth + 2

abbrev pub decreases-with_entries : goal.decreases-with_entries
decreases-with_entries l = 3 * l.depth

abbrev pub invariant-with_entries-loop-number : goal.invariant-with_entries-loop-number
invariant-with_entries-loop-number l =
    each_onto (with_entry (with_entries (l.depth - 1)) l.parent) (map view (drop l.number l.list)) l.found ≡ with_entries l.depth l.parent (map view l.list) l.initial.found
