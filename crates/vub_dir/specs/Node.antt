-- What a node of the tree is: a directory, as the list of its names, or a file, as the list of its bytes.
use Rattle.std.specs.Prelude.{List}
use Rattle.vub_dir.specs.declared.node.Node.{Node as NodeOf}
use Rattle.vub_dir.specs.Names.{Entry}

abbrev pub Node : Type 0
Node = NodeOf (List Entry)
