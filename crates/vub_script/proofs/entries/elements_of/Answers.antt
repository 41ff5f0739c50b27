use Rattle.std.proofs.Common.{refl}
use Rattle.vub_forms.proofs.Trees.{elements_of_array}
use Rattle.vub_script.proofs.entries.elements_of.Goals as goal

pub returns-in-Array : goal.returns-in-Array
returns-in-Array c = rw (c.in-Array.is, elements_of_array c.in-Array.list, c.as_slice.ensures.value) refl
