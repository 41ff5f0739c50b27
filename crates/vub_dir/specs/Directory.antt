-- What the service answers, as a function of the tree, the request's bytes and the room for the reply; and the tree
-- after it. An answer is a reply's body or the number of an error.
use Rattle.std.specs.Prelude.{ℕ, ◌+◌, ◌-◌, ◌%◌, ◌==◌, Bool, false, not, ◌&&◌, nat_le, nat_lt, if◌then◌else◌, List, []}
use Rattle.std.specs.Prelude.{◌∷◌, ◌++◌, length, take, drop, replicate, Option, Some, None, Result, Ok, Err}
use Rattle.vub_dir.specs.declared.fuse.TheConstants.{FUSE_INIT, FUSE_LOOKUP, FUSE_FORGET, FUSE_GETATTR, FUSE_OPEN}
use Rattle.vub_dir.specs.declared.fuse.TheConstants.{FUSE_READ, FUSE_WRITE, FUSE_READDIR, FUSE_KERNEL_VERSION}
use Rattle.vub_dir.specs.declared.fuse.TheConstants.{FUSE_KERNEL_MINOR_VERSION, GREATEST_WRITE, GREATEST_FILE, ENOENT}
use Rattle.vub_dir.specs.declared.fuse.TheConstants.{EINVAL, EFBIG, ENOSYS, EPROTO}
use Rattle.vub_dir.specs.declared.fuse.TheConstants.{FUSE_IN_HEADER_SIZE, FUSE_OUT_HEADER_SIZE, FUSE_INIT_IN_SIZE}
use Rattle.vub_dir.specs.declared.fuse.TheConstants.{FUSE_OPEN_IN_SIZE, FUSE_READ_IN_SIZE, FUSE_WRITE_IN_SIZE}
use Rattle.vub_dir.specs.declared.fuse.TheConstants.{FUSE_NAME_OFFSET, FUSE_DIRENT_ALIGNMENT}
use Rattle.vub_dir.specs.declared.layout.Field.{Field}
use Rattle.vub_dir.specs.declared.layout.Field.TheVariants.{U16, U32, U64}
use Rattle.vub_dir.specs.Node.{Node}
use Rattle.vub_dir.specs.Attributes.{attribute_fields}
use Rattle.vub_dir.specs.Layout.{fields_bytes, u32_at, u64_at}
use Rattle.vub_dir.specs.Names.{Entry}
use Rattle.vub_dir.specs.Replies.{fitted}
use Rattle.vub_dir.specs.Requests.{header_at, name_in}
use Rattle.vub_dir.specs.Tree.{node_at, child_of, names_of, file_of, kind_at, write_at}

-- INIT: the body is major u32, minor u32, max_readahead u32, flags u32. The reply: major, minor, max_readahead as
-- asked, flags u32, max_background u16, congestion_threshold u16, max_write u32, time_gran u32, and 36 bytes that are
-- zero (max_pages u16, map_alignment u16, flags2 u32, and 28 that are unused)
abbrev pub init_fields : ℕ → List Field
init_fields readahead =
    U32 FUSE_KERNEL_VERSION ∷ U32 FUSE_KERNEL_MINOR_VERSION ∷ U32 readahead ∷ U32 0 ∷ U16 0 ∷ U16 0
    ∷ U32 GREATEST_WRITE ∷ U32 1 ∷ U16 0 ∷ U16 0 ∷ U32 0 ∷ U32 0 ∷ U32 0 ∷ U32 0 ∷ U32 0 ∷ U32 0 ∷ U32 0 ∷ U32 0 ∷ []

unfoldable pub init_of : List ℕ → Result (List ℕ) ℕ
init_of body =
    if nat_lt (length body) FUSE_INIT_IN_SIZE then Err EINVAL else
    if not (u32_at body 0 == FUSE_KERNEL_VERSION) then Err EPROTO else
    Ok (fields_bytes (init_fields (u32_at body 8)))

-- the entry of a child: its node u64, its generation u64, two times of validity (u64, u64, u32, u32), its attributes
abbrev pub entry_fields : ℕ → List Field
entry_fields child = U64 child ∷ U64 0 ∷ U64 0 ∷ U64 0 ∷ U32 0 ∷ U32 0 ∷ []

abbrev pub entry_at : ℕ → Option Node → Result (List ℕ) ℕ
entry_at child None = Err ENOENT
entry_at child (Some node) = Ok (fields_bytes (entry_fields child) ++ fields_bytes (attribute_fields child node))

unfoldable pub entry_of : List Node → Result ℕ ℕ → Result (List ℕ) ℕ
entry_of nodes (Err errno) = Err errno
entry_of nodes (Ok child) = entry_at child (node_at nodes child)

-- LOOKUP: the body is a name
abbrev pub lookup_name : List Node → ℕ → Option (List ℕ) → Result (List ℕ) ℕ
lookup_name nodes n None = Err EINVAL
lookup_name nodes n (Some name) = entry_of nodes (child_of nodes n name)

unfoldable pub lookup_of : List Node → ℕ → List ℕ → Result (List ℕ) ℕ
lookup_of nodes n body = lookup_name nodes n (name_in body)

-- GETATTR: a time of validity (u64, u32), u32, and the attributes
abbrev pub attributes_at : ℕ → Option Node → Result (List ℕ) ℕ
attributes_at n None = Err ENOENT
attributes_at n (Some node) = Ok (fields_bytes (U64 0 ∷ U32 0 ∷ U32 0 ∷ []) ++ fields_bytes (attribute_fields n node))

unfoldable pub getattr_of : List Node → ℕ → Result (List ℕ) ℕ
getattr_of nodes n = attributes_at n (node_at nodes n)

-- OPEN: the body is flags u32, u32. The reply: the handle u64, which is the node, flags u32, u32
abbrev pub opened : ℕ → Result (List ℕ) ℕ → Result (List ℕ) ℕ
opened n (Err errno) = Err errno
opened n (Ok bytes) = Ok (fields_bytes (U64 n ∷ U32 0 ∷ U32 0 ∷ []))

unfoldable pub open_of : List Node → ℕ → List ℕ → Result (List ℕ) ℕ
open_of nodes n body = if nat_lt (length body) FUSE_OPEN_IN_SIZE then Err EINVAL else opened n (file_of nodes n)

-- the body of READ, WRITE and READDIR: fh u64, offset u64, size u32, and 20 bytes more
abbrev pub offset_in : List ℕ → ℕ
offset_in body = u64_at body 8

abbrev pub size_in : List ℕ → ℕ
size_in body = u32_at body 16

-- READ: the file's bytes from offset on, at most size of them
abbrev pub read_part : ℕ → ℕ → Result (List ℕ) ℕ → Result (List ℕ) ℕ
read_part offset size (Err errno) = Err errno
read_part offset size (Ok bytes) = Ok (take size (drop offset bytes))

unfoldable pub read_of : List Node → ℕ → List ℕ → Result (List ℕ) ℕ
read_of nodes n body =
    if nat_lt (length body) FUSE_READ_IN_SIZE then Err EINVAL else
    read_part (offset_in body) (size_in body) (file_of nodes n)

-- WRITE: the bytes follow the 40 that READ has too. The reply: size u32, u32
abbrev pub data_in : List ℕ → List ℕ
data_in body = drop FUSE_WRITE_IN_SIZE body

-- the size must be that of the bytes that follow, and the end must not lie past the greatest file
unfoldable pub size_refusal : ℕ → ℕ → ℕ → Option ℕ
size_refusal offset size count =
    if not (size == count) then Some EINVAL else
    if nat_lt GREATEST_FILE (offset + size) then Some EFBIG else
    None

abbrev pub refusal_to_write : ℕ → ℕ → ℕ → Result (List ℕ) ℕ → Option ℕ
refusal_to_write offset size count (Err errno) = Some errno
refusal_to_write offset size count (Ok bytes) = size_refusal offset size count

-- the error that a WRITE is refused with, if it is refused
unfoldable pub write_refusal : List Node → ℕ → List ℕ → Option ℕ
write_refusal nodes n body =
    if nat_lt (length body) FUSE_WRITE_IN_SIZE then Some EINVAL else
    refusal_to_write (offset_in body) (size_in body) (length (data_in body)) (file_of nodes n)

abbrev pub unless_refused : Option ℕ → List ℕ → Result (List ℕ) ℕ
unless_refused (Some errno) body = Err errno
unless_refused None body = Ok body

unfoldable pub write_of : List Node → ℕ → List ℕ → Result (List ℕ) ℕ
write_of nodes n body = unless_refused (write_refusal nodes n body) (fields_bytes (U32 (size_in body) ∷ U32 0 ∷ []))

-- READDIR: whole entries of the directory by name order, from place offset on, while their bytes are at most size. An
-- entry: ino u64, the place of the next u64, length of the name u32, type u32, and the name with zeros up to a multiple
-- of 8 bytes
abbrev pub padding : ℕ → ℕ
padding n = (FUSE_DIRENT_ALIGNMENT - n % FUSE_DIRENT_ALIGNMENT) % FUSE_DIRENT_ALIGNMENT

abbrev pub dirent_size : List ℕ → ℕ
dirent_size name = FUSE_NAME_OFFSET + length name + padding (length name)

unfoldable pub dirent : ℕ → List ℕ → ℕ → ℕ → List ℕ
dirent place name node kind =
    fields_bytes (U64 node ∷ U64 (place + 1) ∷ U32 (length name) ∷ U32 kind ∷ [])
    ++ name ++ replicate (padding (length name)) 0

unfoldable pub dirents : List Node → ℕ → ℕ → List Entry → List ℕ
dirents nodes place left [] = []
dirents nodes place left (e ∷ es) =
    if nat_le (dirent_size e.name) left
    then dirent place e.name e.node (kind_at nodes e.node) ++ dirents nodes (place + 1) (left - dirent_size e.name) es
    else []

abbrev pub listed : List Node → ℕ → ℕ → Result (List Entry) ℕ → Result (List ℕ) ℕ
listed nodes offset size (Err errno) = Err errno
listed nodes offset size (Ok es) = Ok (dirents nodes offset size (drop offset es))

unfoldable pub readdir_of : List Node → ℕ → List ℕ → Result (List ℕ) ℕ
readdir_of nodes n body =
    if nat_lt (length body) FUSE_READ_IN_SIZE then Err EINVAL else
    listed nodes (offset_in body) (size_in body) (names_of nodes n)

-- the answer to a request with this opcode, about the node n, with this body; an opcode that is not served is "not
-- implemented"
unfoldable pub answer_of : List Node → ℕ → ℕ → List ℕ → Result (List ℕ) ℕ
answer_of nodes opcode n body =
    if opcode == FUSE_INIT then init_of body else
    if opcode == FUSE_LOOKUP then lookup_of nodes n body else
    if opcode == FUSE_GETATTR then getattr_of nodes n else
    if opcode == FUSE_OPEN then open_of nodes n body else
    if opcode == FUSE_READ then read_of nodes n body else
    if opcode == FUSE_WRITE then write_of nodes n body else
    if opcode == FUSE_READDIR then readdir_of nodes n body else
    Err ENOSYS

-- the answer to a whole request: its length field must be its length, and its body follows the 40 bytes of the header
unfoldable pub answer_to : List Node → List ℕ → Result (List ℕ) ℕ
answer_to nodes request =
    let h = header_at request in
    if not (h.length == length request) then Err EINVAL else
    answer_of nodes h.opcode h.node (drop FUSE_IN_HEADER_SIZE request)

-- whether there is a reply: a request with a header, which is not FORGET
unfoldable pub is_replied : List ℕ → Bool
is_replied request = nat_le FUSE_IN_HEADER_SIZE (length request) && not ((header_at request).opcode == FUSE_FORGET)

-- the directory reply
unfoldable pub reply_of : List Node → List ℕ → ℕ → List ℕ
reply_of nodes request room =
    if is_replied request then fitted room (header_at request).unique (answer_to nodes request) else []

-- whether the answer is a body whose reply fits the room
abbrev pub succeeds : ℕ → Result (List ℕ) ℕ → Bool
succeeds room (Ok body) = nat_le (FUSE_OUT_HEADER_SIZE + length body) room
succeeds room (Err errno) = false

-- whether the request is a WRITE, whole and with the right length field
unfoldable pub is_write : List ℕ → Bool
is_write request =
    nat_le FUSE_IN_HEADER_SIZE (length request)
    && ((header_at request).opcode == FUSE_WRITE && (header_at request).length == length request)

-- the tree after a request: a WRITE that succeeds, with a reply that fits, changes its file; and nothing else changes
-- the tree
unfoldable pub next_tree : List Node → List ℕ → ℕ → List Node
next_tree nodes request room =
    let n = (header_at request).node in
    let body = drop FUSE_IN_HEADER_SIZE request in
    if is_write request && succeeds room (write_of nodes n body)
    then write_at nodes n (offset_in body) (data_in body)
    else nodes
