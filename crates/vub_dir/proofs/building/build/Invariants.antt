use Rattle.std.proofs.Common.{◌≡◌, drop}
use Rattle.vub_dir.specs.Building.{with_entries, fault_among, tree_of, first_fault}
use Rattle.vub_dir.proofs.building.build.Given as goal

abbrev pub invariant-loop-entry : goal.invariant-loop-entry
invariant-loop-entry l = record {
  tree : with_entries l.nodes.items (drop l.entry-index l.entries) ≡ tree_of l.entries;
  fault : fault_among l.nodes.items l.depths.items (drop l.entry-index l.entries) ≡ first_fault l.entries;
}
