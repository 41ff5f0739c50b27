-- A disk as the service of a script: `{"block":SECTORS,"id":HEX}`. What makes no disk makes no script.
use Rattle.std.specs.Prelude.{ℕ, ◌||◌, Bool, List, length, codes, if◌then◌else◌, Option, Some, None, is_none}
use Rattle.std.specs.Str.{bytes_eq}
use Rattle.serde_json.specs.Data.{Data}
use Rattle.serde_json.specs.Find.{get}
use Rattle.vub_block.specs.Disk.{new_fault}
use Rattle.vub_script.specs.declared.service_form.ServiceForm.{ServiceForm}
use Rattle.vub_script.specs.declared.service_form.ServiceForm.TheVariants.{Block}
use Rattle.vub_forms.specs.Reading.{◌>>=◌, given}
use Rattle.vub_forms.specs.Hexadecimal.{bytes_of}
use Rattle.vub_forms.specs.Numbers.{u32_of}

abbrev pub is_disk_key : List ℕ → Bool
is_disk_key k = bytes_eq k (codes "block") || bytes_eq k (codes "id")

-- so many sectors and an id of so many bytes make a disk
abbrev pub is_disk : ℕ → List ℕ → Bool
is_disk sectors id = is_none (new_fault sectors (length id))

-- the disk of a tree with a disk's keys
unfoldable pub disk_of : Data → Option ServiceForm
disk_of d =
    given u32_of (get (codes "block") d) >>= λ sectors. given bytes_of (get (codes "id") d) >>= λ id.
    if is_disk sectors id then Some (Block sectors id) else None
