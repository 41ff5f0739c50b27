-- The service of a script: what it replies to a request, and what it is then.
use Rattle.std.specs.Prelude.{ℕ, List, take}
use Rattle.vub_block.specs.Disk.{new_disk}
use Rattle.vub_block.specs.Answer as block
use Rattle.vub_dir.specs.Building.{tree_of}
use Rattle.vub_dir.specs.Directory.{reply_of, next_tree}
use Rattle.vub_script.specs.declared.service_form.ServiceForm.{ServiceForm}
use Rattle.vub_script.specs.declared.service_form.ServiceForm.TheVariants as form
use Rattle.vub_share.specs.declared.service.ScriptService.{ScriptService}
use Rattle.vub_share.specs.declared.service.ScriptService.TheVariants.{Echo, Directory, Disk}

-- the service that a script asks for, before its first request
abbrev pub service_from : ServiceForm → ScriptService
service_from form.Echo = Echo (record {})
service_from (form.Dir entries) = Directory (tree_of entries)
service_from (form.Block sectors id) = Disk (new_disk sectors id)

-- the echo service replies with the first bytes of the request, as many as there is room for
abbrev pub script_reply : ScriptService → List ℕ → ℕ → List ℕ
script_reply (Echo e) request room = take room request
script_reply (Directory tree) request room = reply_of tree request room
script_reply (Disk disk) request room = block.reply_of disk request room

-- what it is after the request; the echo service never changes
abbrev pub script_after : ScriptService → List ℕ → ℕ → ScriptService
script_after (Echo e) request room = Echo e
script_after (Directory tree) request room = Directory (next_tree tree request room)
script_after (Disk disk) request room = Disk (block.after disk request room)
