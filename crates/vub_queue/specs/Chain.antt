-- The chain of a head: a relation on a whole list of descriptors (virtio 1.2, 2.7.5). Descriptors with INDIRECT are in
-- no chain. That the lengths of a chain add to less than 2^32 is this crate's own limit.
use Rattle.std.specs.Prelude.{◌≡◌, ℕ, ◌+◌, ◌<◌, ◌≤◌, Bool, true, false, not, ◌==◌, if◌then◌else◌, List, [], ◌∷◌, length}
use Rattle.std.specs.Prelude.{bit_and, map, sum_by, filter}
use Rattle.std.specs.List.{flat_map}
use Rattle.std.specs.Int.{w16, w32, w64}
use Rattle.vub_mem.specs.Memory.{Guest}
use Rattle.vub_mem.specs.Place.{covers, bytes_at, number_at}
use Rattle.vub_queue.specs.Layout.{Table, slot_of}
use Rattle.vub_queue.specs.declared.chain.Chain.{Chain}
use Rattle.vub_queue.specs.declared.descriptor.Descriptor.{Descriptor}
use Rattle.vub_queue.specs.declared.segment.Segment.{Segment}

-- the flags NEXT, WRITE and INDIRECT
abbrev pub has_next : Descriptor → Bool
has_next d = not (bit_and d.flags 1 == 0)

abbrev pub is_writable : Descriptor → Bool
is_writable d = not (bit_and d.flags 2 == 0)

abbrev pub is_indirect : Descriptor → Bool
is_indirect d = not (bit_and d.flags 4 == 0)

-- the 16 bytes of a descriptor at an address: address, length, flags, next
unfoldable pub descriptor_at : Guest → ℕ → Descriptor
descriptor_at g a =
    record {
      addr = number_at w64 g a;
      len = number_at w32 g (a + 8);
      flags = number_at w16 g (a + 12);
      next = number_at w16 g (a + 14);
    }

-- the sum of the lengths
abbrev pub total : List Descriptor → ℕ
total ds = sum_by (λ d. d.len) ds

-- The descriptor with this number is in the table, is covered and reads as d, which is direct and whose segment is
-- covered.
pub record Stands (g : Guest) (t : Table) (i : ℕ) (d : Descriptor) : Type 0 where
  pub below : i < t.size
  pub read : covers g.regions (slot_of t i) 16 ≡ true
  pub is : d ≡ descriptor_at g (slot_of t i)
  pub direct : is_indirect d ≡ false
  pub covered : covers g.regions d.addr d.len ≡ true

-- The first has number i. Each but the last has NEXT and names the one that follows, and the last has no NEXT.
abbrev pub Links : Guest → Table → ℕ → List Descriptor → Type 0
Links g t i [] = ⊥
Links g t i (d ∷ []) = Stands g t i d × (has_next d ≡ false)
Links g t i (d ∷ e ∷ ds) = Stands g t i d × (has_next d ≡ true) × Links g t d.next (e ∷ ds)

-- the list is the chain of the head
pub record IsChain (g : Guest) (t : Table) (head : ℕ) (ds : List Descriptor) : Type 0 where
  pub links : Links g t head ds
  pub short : length ds ≤ t.size
  pub small : total ds ≤ 4294967295

-- the segment of the descriptor lies in guest memory
abbrev pub IsCovered : Guest → Descriptor → Type 0
IsCovered g d = covers g.regions d.addr d.len ≡ true

-- what the device reads of a descriptor: the bytes of its segment, if the driver wrote it
unfoldable pub read_part : Guest → Descriptor → List ℕ
read_part g d = if is_writable d then [] else bytes_at g d.addr d.len

-- the request: the bytes of the segments without WRITE, joined in order
unfoldable pub request_of : Guest → List Descriptor → List ℕ
request_of g ds = flat_map (λ d. read_part g d) ds

abbrev pub segment_of : Descriptor → Segment
segment_of d = record { addr = d.addr; len = d.len }

-- the segments with WRITE, in order
unfoldable pub segments_of : List Descriptor → List Segment
segments_of ds = map segment_of (filter is_writable ds)

-- how many bytes they hold
unfoldable pub room_of : List Descriptor → ℕ
room_of ds = sum_by (λ s. s.len) (segments_of ds)

-- the entry that the chain of the head makes
abbrev pub chain_of : Guest → ℕ → List Descriptor → Chain
chain_of g head ds = record { head = head; request = request_of g ds; segments = segments_of ds; room = room_of ds }
