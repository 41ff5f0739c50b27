use Rattle.vub_forms.proofs.Trees.{request_of_array}
use Rattle.vub_forms.proofs.requests.RequestFromTree.from_tree.Goals as goal

pub returns-in-Array : goal.returns-in-Array
returns-in-Array c = rw (c.in-Array.is, request_of_array c.in-Array.list, ← c.deref.ensures.value) c.request_at.ensures
