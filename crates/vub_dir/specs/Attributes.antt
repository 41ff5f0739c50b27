-- The attributes of a node (struct fuse_attr of linux/fuse.h, 88 bytes).
use Rattle.std.specs.Prelude.{ℕ, ◌+◌, ◌/◌, List, [], ◌∷◌, length}
use Rattle.vub_dir.specs.declared.fuse.TheConstants.{FILE_MODE, DIRECTORY_MODE, DT_DIR, DT_REG}
use Rattle.vub_dir.specs.declared.layout.Field.{Field}
use Rattle.vub_dir.specs.declared.layout.Field.TheVariants.{U32, U64}
use Rattle.vub_dir.specs.Node.{Node}
use Rattle.vub_dir.specs.declared.node.Node.TheVariants.{Directory, File}

-- the length of a file, 0 for a directory
abbrev pub size_of : Node → ℕ
size_of (Directory es) = 0
size_of (File bytes) = length bytes

-- in units of 512 bytes, rounded up
abbrev pub blocks_of : ℕ → ℕ
blocks_of size = (size + 511) / 512

-- a regular file that all may read and its owner may write, or a directory that all may pass
abbrev pub mode_of : Node → ℕ
mode_of (Directory es) = DIRECTORY_MODE
mode_of (File bytes) = FILE_MODE

abbrev pub links_of : Node → ℕ
links_of (Directory es) = 2
links_of (File bytes) = 1

-- the type in a listing
abbrev pub kind_of : Node → ℕ
kind_of (Directory es) = DT_DIR
kind_of (File bytes) = DT_REG

-- ino, size, blocks, atime, mtime, ctime, atimensec, mtimensec, ctimensec, mode, nlink, uid, gid, rdev, blksize, flags
unfoldable pub attribute_fields : ℕ → Node → List Field
attribute_fields n node =
    U64 n ∷ U64 (size_of node) ∷ U64 (blocks_of (size_of node)) ∷ U64 0 ∷ U64 0 ∷ U64 0 ∷ U32 0 ∷ U32 0 ∷ U32 0
    ∷ U32 (mode_of node) ∷ U32 (links_of node) ∷ U32 0 ∷ U32 0 ∷ U32 0 ∷ U32 4096 ∷ U32 0 ∷ []
