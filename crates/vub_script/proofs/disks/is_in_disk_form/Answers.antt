use Rattle.std.proofs.Common.{◌∙◌}
use Rattle.vub_script.specs.Disks.{is_disk_key}
use Rattle.vub_forms.proofs.Trees.{object_keys}
use Rattle.vub_script.proofs.disks.is_in_disk_form.Goals as goal

pub returns-in-Object : goal.returns-in-Object
returns-in-Object c = rw c.in-Object.is (c.has_only_disk_keys.ensures ∙ object_keys is_disk_key _)
