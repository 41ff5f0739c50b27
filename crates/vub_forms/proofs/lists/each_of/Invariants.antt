use Rattle.std.proofs.Common.{◌≡◌, map}
use Rattle.serde_json.specs.View.{view}
use Rattle.vub_forms.specs.Lists.{each}
use Rattle.vub_forms.proofs.Trees.{onward}
use Rattle.vub_forms.proofs.lists.each_of.Given as goal

abbrev pub invariant-loop-number : goal.invariant-loop-number
invariant-loop-number g l = onward g.T.FromTree.reads l.found.items l.number l.list ≡ each g.T.FromTree.reads (map view l.list)
