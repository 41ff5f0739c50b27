use Rattle.std.proofs.Common.{◌∙◌}
use Rattle.vub_forms.specs.Keys.{is_key}
use Rattle.vub_forms.proofs.Trees.{object_keys}
use Rattle.vub_forms.proofs.keys.is_in_form.Goals as goal

pub returns-in-Object : goal.returns-in-Object
returns-in-Object c = rw c.in-Object.is (c.has_only_keys.ensures ∙ object_keys is_key _)
