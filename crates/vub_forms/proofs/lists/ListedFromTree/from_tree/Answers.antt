use Rattle.vub_forms.proofs.Trees.{list_of_array}
use Rattle.vub_forms.proofs.lists.ListedFromTree.from_tree.Goals as goal

pub returns-in-Array : goal.returns-in-Array
returns-in-Array g c = rw (c.in-Array.is, list_of_array g.T.FromTree.reads c.in-Array.list, ← c.deref.ensures.value) c.each_of.ensures
