-- A reply as it is written (struct fuse_out_header of linux/fuse.h, and the body), and what becomes of it where there
-- is little room.
use Rattle.std.specs.Prelude.{ℕ, ◌≡◌, ◌+◌, ◌-◌, ◌%◌, ◌^◌, nat_le, if◌then◌else◌, List, [], ◌∷◌, ◌++◌, length, Result}
use Rattle.std.specs.Prelude.{Ok, Err}
use Rattle.vub_dir.specs.Layout.{fields_bytes}
use Rattle.vub_dir.specs.declared.fuse.TheConstants.{EIO}
use Rattle.vub_dir.specs.declared.layout.Field.{Field}
use Rattle.vub_dir.specs.declared.layout.Field.TheVariants.{U32, U64}
use Rattle.vub_dir.specs.declared.slot.Slot.{Slot}

-- the number -errno in 32 bits, in two's complement
abbrev pub negative : ℕ → ℕ
negative errno = (2 ^ 32 - errno) % 2 ^ 32

-- the header: length u32, error i32, unique u64; 16 bytes
abbrev pub header_fields : ℕ → ℕ → ℕ → List Field
header_fields size unique errno = U32 size ∷ U32 (negative errno) ∷ U64 unique ∷ []

-- the header, and then the body
unfoldable pub message : ℕ → ℕ → List ℕ → List ℕ
message unique errno body = fields_bytes (header_fields (16 + length body) unique errno) ++ body

-- an error is a header alone; it is dropped where the room is too short for it
unfoldable pub refusal : ℕ → ℕ → ℕ → List ℕ
refusal room unique errno = if nat_le 16 room then message unique errno [] else []

-- the reply to an answer, which is a body or the number of an error; a reply that is longer than the room becomes error
-- EIO
unfoldable pub fitted : ℕ → ℕ → Result (List ℕ) ℕ → List ℕ
fitted room unique (Ok body) =
    if nat_le (16 + length body) room then message unique 0 body else refusal room unique EIO
fitted room unique (Err errno) = refusal room unique errno

-- the reply is that to this answer, with this room and number
abbrev pub IsFitted : Slot → Result (List ℕ) ℕ → List ℕ → Type 0
IsFitted slot answer reply = reply ≡ fitted slot.room slot.unique answer
