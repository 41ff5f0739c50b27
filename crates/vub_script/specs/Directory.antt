-- The service of a script: `"echo"`, a disk, or `{"dir":[entry,..]}`, a directory whose entries are files,
-- `{"name":TEXT,"hex":HEX}`, and directories, `{"name":TEXT,"entries":[entry,..]}`.
use Rattle.std.specs.Prelude.{ℕ, zero, suc, ◌+◌, ◌||◌, Bool, true, if◌then◌else◌, List, [], ◌∷◌, ◌++◌, length, codes}
use Rattle.std.specs.Prelude.{Option, Some, None, is_none, option_map}
use Rattle.std.specs.Str.{bytes_eq}
use Rattle.serde_json.specs.Data.{Data}
use Rattle.serde_json.specs.Find.{as_array, as_object, as_str, get}
use Rattle.vub_dir.specs.Building.{first_fault}
use Rattle.vub_dir.specs.declared.entry.TreeEntry.{TreeEntry}
use Rattle.vub_script.specs.declared.service_form.ServiceForm.{ServiceForm}
use Rattle.vub_script.specs.declared.service_form.ServiceForm.TheVariants.{Echo, Dir, Block}
use Rattle.vub_forms.specs.Reading.{◌>>=◌}
use Rattle.vub_forms.specs.Hexadecimal.{bytes_of}
use Rattle.vub_script.specs.Disks.{is_disk_key, is_disk, disk_of}
use Rattle.vub_forms.specs.Keys.{object_keys_are}
use Rattle.vub_forms.specs.Leaves.{is_text}
use Rattle.vub_forms.specs.Lists.{items_list}
use Rattle.vub_script.specs.Objects.{lone_member}

abbrev pub is_file_key : List ℕ → Bool
is_file_key k = bytes_eq k (codes "name") || bytes_eq k (codes "hex")

abbrev pub is_directory_key : List ℕ → Bool
is_directory_key k = bytes_eq k (codes "name") || bytes_eq k (codes "entries")

abbrev pub name_of : Data → Option (List ℕ)
name_of d = get (codes "name") d >>= as_str

abbrev pub inside_of : Data → Option (List Data)
inside_of d = get (codes "entries") d >>= λ e. option_map items_list (as_array e)

-- the list with this entry behind it
abbrev pub with_new : List TreeEntry → ℕ → List ℕ → Option (List ℕ) → List TreeEntry
with_new found parent name file = found ++ record { parent = parent; name = name; file = file } ∷ []

-- the list with a file behind it
abbrev pub with_file : ℕ → Data → List TreeEntry → Option (List TreeEntry)
with_file parent d found =
    name_of d >>= λ name. (get (codes "hex") d >>= bytes_of) >>= λ bytes. Some (with_new found parent name (Some bytes))

-- The list with a directory behind it, and behind that what is in it. The root is node 1, so the directory is the node
-- two past the length of the list.
abbrev pub with_directory : (ℕ → List Data → List TreeEntry → Option (List TreeEntry)) → ℕ → Data → List TreeEntry
    → Option (List TreeEntry)
with_directory inside parent d found =
    name_of d >>= λ name. inside_of d >>= λ ds. inside (length found + 2) ds (with_new found parent name None)

unfoldable pub with_entry : (ℕ → List Data → List TreeEntry → Option (List TreeEntry)) → ℕ → Data → List TreeEntry
    → Option (List TreeEntry)
with_entry inside parent d found =
    if object_keys_are is_file_key d then with_file parent d found
    else if object_keys_are is_directory_key d then with_directory inside parent d found
    else None

-- the list with each of them behind it, one after the other
abbrev pub each_onto : (Data → List TreeEntry → Option (List TreeEntry)) → List Data → List TreeEntry
    → Option (List TreeEntry)
each_onto entry [] found = Some found
each_onto entry (d ∷ ds) found = entry d found >>= λ more. each_onto entry ds more

-- the list with the entries of this parent behind it, in which directories nest less deep than the number
unfoldable pub with_entries : ℕ → ℕ → List Data → List TreeEntry → Option (List TreeEntry)
with_entries zero parent ds found = None
with_entries (suc depth) parent ds found = each_onto (with_entry (with_entries depth) parent) ds found

-- the entries of a tree, each directory before what is in it; directories nest at most 64 deep
unfoldable pub entries_of : Data → Option (List TreeEntry)
entries_of d = as_array d >>= λ ds. with_entries 65 1 (items_list ds) []

-- a service that can be served: the entries of a directory make a tree, sectors and id make a disk
abbrev pub is_served : ServiceForm → Bool
is_served Echo = true
is_served (Dir entries) = is_none (first_fault entries)
is_served (Block sectors id) = is_disk sectors id

-- a directory whose entries make a tree
unfoldable pub directory_of : Data → Option ServiceForm
directory_of d = entries_of d >>= λ es. if is_none (first_fault es) then Some (Dir es) else None

abbrev pub service_form : List ℕ → Data → Option ServiceForm
service_form k d = if bytes_eq k (codes "dir") then directory_of d else None

unfoldable pub service_of : Data → Option ServiceForm
service_of d =
    if is_text d (codes "echo") then Some Echo
    else if object_keys_are is_disk_key d then disk_of d
    else as_object d >>= λ ms. lone_member ms >>= λ m. service_form m.0 m.1
