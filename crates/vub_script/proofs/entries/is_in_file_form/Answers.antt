use Rattle.std.proofs.Common.{◌∙◌}
use Rattle.vub_script.specs.Directory.{is_file_key}
use Rattle.vub_forms.proofs.Trees.{object_keys}
use Rattle.vub_script.proofs.entries.is_in_file_form.Goals as goal

pub returns-in-Object : goal.returns-in-Object
returns-in-Object c = rw c.in-Object.is (c.has_only_file_keys.ensures ∙ object_keys is_file_key _)
