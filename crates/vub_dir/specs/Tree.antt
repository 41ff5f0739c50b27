-- A tree: a finite map from numbers to directories and files. The nodes are numbered from 1, which is the root, without
-- a gap; so the map is the list of its nodes.
use Rattle.std.specs.Prelude.{ℕ, ◌-◌, ◌==◌, if◌then◌else◌, List, Option, Some, None, Result, Ok, Err, slice_get}
use Rattle.std.specs.Prelude.{slice_set}
use Rattle.vub_dir.specs.declared.fuse.TheConstants.{ENOENT, ENOTDIR, EISDIR, DT_REG}
use Rattle.vub_dir.specs.Node.{Node}
use Rattle.vub_dir.specs.declared.node.Node.TheVariants.{Directory, File}
use Rattle.vub_dir.specs.Attributes.{kind_of}
use Rattle.vub_dir.specs.Content.{overlay}
use Rattle.vub_dir.specs.Names.{Entry, find_name, put_name}

-- the node with this number
unfoldable pub node_at : List Node → ℕ → Option Node
node_at nodes n = if n == 0 then None else slice_get nodes (n - 1)

-- the node, or the error "no such file or directory"
abbrev pub or_missing : Option ℕ → Result ℕ ℕ
or_missing None = Err ENOENT
or_missing (Some n) = Ok n

-- the node that the name stands for in this directory, or the number of an error
abbrev pub child_in : Node → List ℕ → Result ℕ ℕ
child_in (File bytes) name = Err ENOTDIR
child_in (Directory es) name = or_missing (find_name name es)

abbrev pub child_in_some : Option Node → List ℕ → Result ℕ ℕ
child_in_some None name = Err ENOENT
child_in_some (Some node) name = child_in node name

-- the node that the name stands for in the directory n, or the number of an error
unfoldable pub child_of : List Node → ℕ → List ℕ → Result ℕ ℕ
child_of nodes n name = child_in_some (node_at nodes n) name

abbrev pub names_in : Option Node → Result (List Entry) ℕ
names_in None = Err ENOENT
names_in (Some (File bytes)) = Err ENOTDIR
names_in (Some (Directory es)) = Ok es

-- the names in the directory n, or the number of an error
unfoldable pub names_of : List Node → ℕ → Result (List Entry) ℕ
names_of nodes n = names_in (node_at nodes n)

abbrev pub bytes_in : Option Node → Result (List ℕ) ℕ
bytes_in None = Err ENOENT
bytes_in (Some (Directory es)) = Err EISDIR
bytes_in (Some (File bytes)) = Ok bytes

-- the bytes of the file n, or the number of an error
unfoldable pub file_of : List Node → ℕ → Result (List ℕ) ℕ
file_of nodes n = bytes_in (node_at nodes n)

abbrev pub kind_in : Option Node → ℕ
kind_in None = DT_REG
kind_in (Some node) = kind_of node

-- the type of the node n in a listing
unfoldable pub kind_at : List Node → ℕ → ℕ
kind_at nodes n = kind_in (node_at nodes n)

-- the node, a file with these bytes at place offset
abbrev pub write_node : Node → ℕ → List ℕ → Node
write_node (Directory es) offset bytes = Directory es
write_node (File old) offset bytes = File (overlay old offset bytes)

abbrev pub with_node : List Node → ℕ → Option Node → List Node
with_node nodes n None = nodes
with_node nodes n (Some node) = slice_set nodes (n - 1) node

abbrev pub written : Option Node → ℕ → List ℕ → Option Node
written None offset bytes = None
written (Some node) offset bytes = Some (write_node node offset bytes)

-- the tree with these bytes at place offset of the file n, and no other node changed
unfoldable pub write_at : List Node → ℕ → ℕ → List ℕ → List Node
write_at nodes n offset bytes = with_node nodes n (written (node_at nodes n) offset bytes)

-- a directory with the name in its place
abbrev pub name_in_node : Node → List ℕ → ℕ → Node
name_in_node (Directory es) name child = Directory (put_name es name child)
name_in_node (File bytes) name child = File bytes

abbrev pub named : Option Node → List ℕ → ℕ → Option Node
named None name child = None
named (Some node) name child = Some (name_in_node node name child)

-- the tree with the name in the directory n, and no other node changed
unfoldable pub put_child : List Node → ℕ → List ℕ → ℕ → List Node
put_child nodes n name child = with_node nodes n (named (node_at nodes n) name child)
