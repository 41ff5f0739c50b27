-- What a disk answers to a request, by the type of the request: the tests that refuse it, in their order, and else what
-- is given and done. Types and status are those of virtio 1.2, 5.2.6; which status a refusal has, and that bytes which
-- nothing names are 0, is this service's choice.
use Rattle.std.specs.Prelude.{◌≡◌, ℕ, ◌+◌, ◌-◌, ◌/◌, ◌%◌, ◌≤◌, ◌==◌, nat_lt, Bool, true, not, ◌&&◌, ◌||◌}
use Rattle.std.specs.Prelude.{if◌then◌else◌, List, [], ◌∷◌, ◌++◌, length, map, replicate, Result, IfOk, OnOk, OnErr}
use Rattle.std.specs.List.{list_any}
use Rattle.vub_sparse.specs.Cells.{Cell, Byte}
use Rattle.vub_block.specs.Disk.{Disk, sectors_of, blank_sectors, bytes_of, replaced}
use Rattle.vub_block.specs.Request.{type_in, sector_in, data_in, pieces_in}
use Rattle.vub_block.specs.declared.request.Piece.{Piece}
use Rattle.vub_block.specs.declared.status.Status.{Status}
use Rattle.vub_block.specs.declared.status.Status.TheVariants as status
use Rattle.vub_block.specs.declared.erase.Erase.{Erase}
use Rattle.vub_block.specs.declared.erase.Erase.TheVariants.{Discard, WriteZeroes}
use Rattle.vub_block.specs.declared.types.TheConstants.{VIRTIO_BLK_T_IN, VIRTIO_BLK_T_OUT, VIRTIO_BLK_T_FLUSH}
use Rattle.vub_block.specs.declared.types.TheConstants.{VIRTIO_BLK_T_GET_ID, VIRTIO_BLK_T_DISCARD}
use Rattle.vub_block.specs.declared.types.TheConstants.{VIRTIO_BLK_T_WRITE_ZEROES}

pub record Answer : Type 0 where
  pub status : Status
  -- the bytes that are given before the status
  pub bytes : List ℕ
  -- the disk that is left
  pub disk : Disk

-- the request is done: these bytes are given, and this disk is left
abbrev pub does : List ℕ → Disk → Answer
does bytes d = record { status = status.Ok; bytes = bytes; disk = d }

-- the request is refused: no bytes are given, and the disk is as it was
abbrev pub refuses : Status → Disk → Answer
refuses s d = record { status = s; bytes = []; disk = d }

-- so many sectors from this one on end past the disk's end, also where they are none
abbrev pub is_past : ℕ → ℕ → ℕ → Bool
is_past sectors first count = nat_lt sectors (first + count)

-- so many bytes are whole sectors
abbrev pub fills_sectors : ℕ → Bool
fills_sectors n = n % 512 == 0

abbrev pub is_given : List ℕ → Bool
is_given payload = not (length payload == 0)

-- IN: the bytes of sectors, as many as there is room for before the status
unfoldable pub in_answer : Disk → ℕ → List ℕ → ℕ → Answer
in_answer d sector payload room =
    let count = (room - 1) / 512 in
    if not (fills_sectors (room - 1)) || is_past (length d.sectors) sector count || is_given payload
    then refuses status.IoErr d
    else does (bytes_of sector count d.sectors) d

-- OUT: the data is written
unfoldable pub out_answer : Disk → ℕ → List ℕ → Answer
out_answer d sector payload =
    if not (fills_sectors (length payload)) || is_past (length d.sectors) sector (length payload / 512)
    then refuses status.IoErr d
    else does [] (record d { sectors = replaced sector (sectors_of (map Byte payload)) d.sectors })

-- FLUSH: memory has no medium behind it
unfoldable pub flush_answer : Disk → List ℕ → Answer
flush_answer d payload = if is_given payload then refuses status.IoErr d else does [] d

-- GET_ID: the id, where there is room for 20 bytes; zeros follow it, as they follow all that is given
unfoldable pub id_answer : Disk → List ℕ → ℕ → Answer
id_answer d payload room = if nat_lt room 21 || is_given payload then refuses status.IoErr d else does d.id d

-- the greatest flags that a piece may have
abbrev pub greatest_flags : Erase → ℕ
greatest_flags Discard = 0
greatest_flags WriteZeroes = 1

-- the range of a piece is made holes, and else bytes 0
abbrev pub makes_holes : Erase → Piece → Bool
makes_holes Discard p = true
makes_holes WriteZeroes p = p.flags == 1

-- the sectors after the range of each piece was made holes or bytes 0
abbrev pub erased : Erase → List Piece → List (List Cell) → List (List Cell)
erased erase [] sectors = sectors
erased erase (p ∷ ps) sectors =
    erased erase ps (replaced p.first (blank_sectors p.count (makes_holes erase p)) sectors)

-- the data is one or more pieces of 16 bytes
abbrev pub are_pieces : List ℕ → Bool
are_pieces payload = is_given payload && (length payload % 16 == 0)

-- how DISCARD and WRITE_ZEROES end: all pieces are tested before any is done, by their ranges and then by their flags
unfoldable pub pieces_status : Erase → ℕ → List ℕ → Status
pieces_status erase sectors payload =
    let ps = pieces_in payload in
    if not (are_pieces payload) || list_any (λ p. is_past sectors p.first p.count) ps then status.IoErr else
    if list_any (λ p. nat_lt (greatest_flags erase) p.flags) ps then status.Unsupported else status.Ok

abbrev pub erases : Erase → Disk → List Piece → Status → Answer
erases erase d ps status.Ok = does [] (record d { sectors = erased erase ps d.sectors })
erases erase d ps status.IoErr = refuses status.IoErr d
erases erase d ps status.Unsupported = refuses status.Unsupported d

unfoldable pub erase_answer : Erase → Disk → List ℕ → Answer
erase_answer erase d payload = erases erase d (pieces_in payload) (pieces_status erase (length d.sectors) payload)

-- the answer to a request, where there is room for a status
unfoldable pub answer_of : Disk → List ℕ → ℕ → Answer
answer_of d request room =
    let sector = sector_in request in
    let payload = data_in request in
    if nat_lt (length request) 16 then refuses status.IoErr d else
    if type_in request == VIRTIO_BLK_T_IN then in_answer d sector payload room else
    if type_in request == VIRTIO_BLK_T_OUT then out_answer d sector payload else
    if type_in request == VIRTIO_BLK_T_FLUSH then flush_answer d payload else
    if type_in request == VIRTIO_BLK_T_GET_ID then id_answer d payload room else
    if type_in request == VIRTIO_BLK_T_DISCARD then erase_answer Discard d payload else
    if type_in request == VIRTIO_BLK_T_WRITE_ZEROES then erase_answer WriteZeroes d payload else
    refuses status.Unsupported d

abbrev pub status_byte : Status → ℕ
status_byte status.Ok = 0
status_byte status.IoErr = 1
status_byte status.Unsupported = 2

-- a reply fills the room: the bytes that are given, zeros, and the status last
unfoldable pub filled : ℕ → Status → List ℕ → List ℕ
filled room s bytes = bytes ++ replicate (room - 1 - length bytes) 0 ++ status_byte s ∷ []

-- the reply; without room there is none
unfoldable pub reply_of : Disk → List ℕ → ℕ → List ℕ
reply_of d request room =
    let a = answer_of d request room in
    if room == 0 then [] else filled room a.status a.bytes

-- the disk after a request; one without room changes nothing
unfoldable pub after : Disk → List ℕ → ℕ → Disk
after d request room = if room == 0 then d else (answer_of d request room).disk

-- a call gives and does what the answer says; want of memory leaves the disk as it was
pub record Gives {E : Type 0} (room : ℕ) (answer : Answer) (result : Result (List ℕ) E) (old new : Disk) : Type 0 where
  pub reply : IfOk result (λ r. r ≡ filled room answer.status answer.bytes)
  pub fits : IfOk result (λ r. length r ≤ room)
  pub value : OnOk result (new ≡ answer.disk)
  pub err : OnErr result (new ≡ old)
