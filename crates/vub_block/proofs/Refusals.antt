-- Requests that are refused.
use Rattle.std.specs.Prelude.{◌==◌, ◌-◌, ◌/◌, map}
use Rattle.std.proofs.Common.{◌≡◌, ◌≢◌, ℕ, Bool, true, false, cond, not, ◌||◌, nat_lt, nat_eq, List, [], length, refl}
use Rattle.vub_block.specs.Answer.{Answer, after, answer_of, does, refuses, fills_sectors, is_past, is_given, in_answer, out_answer, flush_answer, id_answer, erase_answer, erases, pieces_status}
use Rattle.vub_block.specs.Disk.{Disk, bytes_of, replaced, sectors_of}
use Rattle.vub_sparse.specs.Cells.{Byte}
use Rattle.vub_block.specs.Law.{ChangesNothing}
use Rattle.vub_block.specs.Request.{type_in, sector_in, data_in, pieces_in}
use Rattle.vub_block.specs.declared.erase.Erase.{Erase}
use Rattle.vub_block.specs.declared.erase.Erase.TheVariants.{Discard, WriteZeroes}
use Rattle.vub_block.specs.declared.request.Piece.{Piece}
use Rattle.vub_block.specs.declared.status.Status.{Status}
use Rattle.vub_block.specs.declared.types.TheConstants.{VIRTIO_BLK_T_IN, VIRTIO_BLK_T_OUT, VIRTIO_BLK_T_FLUSH, VIRTIO_BLK_T_GET_ID, VIRTIO_BLK_T_DISCARD, VIRTIO_BLK_T_WRITE_ZEROES}
use Rattle.vub_block.specs.declared.status.Status.TheVariants as status

-- an answer that is Ok, or gives nothing and leaves the disk
pub record Keeps (d : Disk) (a : Answer) : Type 0 where
  pub bytes : a.status ≢ status.Ok → a.bytes ≡ []
  pub disk : a.status ≢ status.Ok → a.disk ≡ d

does_keeps : (d e : Disk) (bytes : List ℕ) → Keeps d (does bytes e)
does_keeps d e bytes = record { bytes = λ other. absurd (other refl); disk = λ other. absurd (other refl) }

refuses_keeps : (d : Disk) (s : Status) → Keeps d (refuses s d)
refuses_keeps d s = record { bytes = λ other. refl; disk = λ other. refl }

-- a choice of two that keep
chosen : {d : Disk} {these those : Answer} (b : Bool) → Keeps d these → Keeps d those → Keeps d (cond b these those)
chosen true first second = first
chosen false first second = second

erases_keeps : (erase : Erase) (d : Disk) (ps : List Piece) (s : Status) → Keeps d (erases erase d ps s)
erases_keeps erase d ps status.Ok = does_keeps d _ []
erases_keeps erase d ps status.IoErr = refuses_keeps d status.IoErr
erases_keeps erase d ps status.Unsupported = refuses_keeps d status.Unsupported

erase_keeps : (erase : Erase) (d : Disk) (payload : List ℕ) → Keeps d (erase_answer erase d payload)
unfolding erase_answer
erase_keeps erase d payload = erases_keeps erase d (pieces_in payload) (pieces_status erase (length d.sectors) payload)

in_keeps : (d : Disk) (sector : ℕ) (payload : List ℕ) (room : ℕ) → Keeps d (in_answer d sector payload room)
unfolding in_answer
in_keeps d sector payload room =
    chosen ((not (fills_sectors (room - 1)) || is_past (length d.sectors) sector ((room - 1) / 512)) || is_given payload)
    (refuses_keeps d status.IoErr) (does_keeps d d (bytes_of sector ((room - 1) / 512) d.sectors))

out_keeps : (d : Disk) (sector : ℕ) (payload : List ℕ) → Keeps d (out_answer d sector payload)
unfolding out_answer
out_keeps d sector payload =
    chosen (not (fills_sectors (length payload)) || is_past (length d.sectors) sector (length payload / 512))
    (refuses_keeps d status.IoErr) (does_keeps d (record d { sectors = replaced sector (sectors_of (map Byte payload)) d.sectors }) [])

flush_keeps : (d : Disk) (payload : List ℕ) → Keeps d (flush_answer d payload)
unfolding flush_answer
flush_keeps d payload = chosen (is_given payload) (refuses_keeps d status.IoErr) (does_keeps d d [])

id_keeps : (d : Disk) (payload : List ℕ) (room : ℕ) → Keeps d (id_answer d payload room)
unfolding id_answer
id_keeps d payload room = chosen (nat_lt room 21 || is_given payload) (refuses_keeps d status.IoErr) (does_keeps d d d.id)

pub answer_keeps : (d : Disk) (request : List ℕ) (room : ℕ) → Keeps d (answer_of d request room)
unfolding answer_of
answer_keeps d request room =
    chosen (nat_lt (length request) 16) (refuses_keeps d status.IoErr)
    (chosen (type_in request == VIRTIO_BLK_T_IN) (in_keeps d (sector_in request) (data_in request) room)
    (chosen (type_in request == VIRTIO_BLK_T_OUT) (out_keeps d (sector_in request) (data_in request))
    (chosen (type_in request == VIRTIO_BLK_T_FLUSH) (flush_keeps d (data_in request))
    (chosen (type_in request == VIRTIO_BLK_T_GET_ID) (id_keeps d (data_in request) room)
    (chosen (type_in request == VIRTIO_BLK_T_DISCARD) (erase_keeps Discard d (data_in request))
    (chosen (type_in request == VIRTIO_BLK_T_WRITE_ZEROES) (erase_keeps WriteZeroes d (data_in request))
    (refuses_keeps d status.Unsupported)))))))

without_room : (d e : Disk) (b : Bool) → e ≡ d → cond b d e ≡ d
without_room d e true same = refl
without_room d e false same = same

pub change_nothing : (d : Disk) (request : List ℕ) (room : ℕ) → (answer_of d request room).status ≢ status.Ok → ChangesNothing d request room
unfolding after
change_nothing d request room other = record {
  bytes = (answer_keeps d request room).bytes other;
  disk = without_room d (answer_of d request room).disk (nat_eq room 0) ((answer_keeps d request room).disk other);
}
