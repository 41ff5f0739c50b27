-- What a driver writes for a request, as addresses and bytes.
use Rattle.std.specs.Prelude.{ℕ, ◌+◌, List, length}
use Rattle.std.specs.Int.{w16, to_le_bytes}
use Rattle.vub_mem.specs.Memory.{Guest}
use Rattle.vub_mem.specs.Place.{write_at}
use Rattle.vub_driver.specs.Calls.{chain_bytes, index_of}
use Rattle.vub_driver.specs.Places.{head_of, request_at, descriptors_at, avail_slot_at, avail_index_at}
use Rattle.vub_driver.specs.declared.layout.Layout.{Layout}
use Rattle.vub_driver.specs.declared.writing.Write.{Write}
use Rattle.vub_driver.specs.declared.writing.Submission.{Submission}

-- for request n: its bytes, its two descriptors, its slot, and the index last (virtio 1.2, 2.7.13)
abbrev pub writes_of : Layout → ℕ → List ℕ → ℕ → Submission
writes_of l n request room = record {
  request = record { at = request_at l n; bytes = request };
  descriptors = record { at = descriptors_at l n; bytes = chain_bytes l n (length request) room };
  slot = record { at = avail_slot_at l n; bytes = to_le_bytes w16 (head_of l n) };
  index = record { at = avail_index_at l; bytes = to_le_bytes w16 (index_of (n + 1)) };
}

abbrev pub written : Guest → Write → Guest
written g w = write_at g w.at w.bytes

-- the memory after these writes, in order
abbrev pub all_written : Guest → Submission → Guest
all_written g w = written (written (written (written g w.request) w.descriptors) w.slot) w.index
