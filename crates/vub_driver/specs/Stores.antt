-- A submit as the guest's own stores into the content behind its memory.
use Rattle.std.specs.Prelude.{◌≡◌, ℕ, ◌+◌, ◌-◌, ◌<◌, ◌≤◌, List, length, None}
use Rattle.std.specs.Int.{w16, to_le_bytes}
use Rattle.vub_mem.specs.Memory.{Guest}
use Rattle.vub_mem.specs.Place.{store_at}
use Rattle.vub_mem.specs.declared.region.Region.{Region}
use Rattle.vub_driver.specs.Calls.{chain_bytes, index_of, submit_guest}
use Rattle.vub_driver.specs.Layouts.{new_fault}
use Rattle.vub_driver.specs.Law.{IsCoveredBy}
use Rattle.vub_driver.specs.Places.{head_of, request_at, descriptors_at, avail_slot_at, avail_index_at}
use Rattle.vub_driver.specs.declared.layout.Layout.{Layout}

-- the memory after bytes are stored into the content of a region, where the region shows this address
abbrev pub stored : Region → Guest → ℕ → List ℕ → Guest
stored r g a bytes = store_at g r.object (r.offset + (a - r.start)) bytes

-- after the four stores of request n: its bytes, its two descriptors, its slot, and the index last
abbrev pub four_stored : Region → Layout → Guest → ℕ → List ℕ → ℕ → Guest
four_stored r l g n request room =
    let bytes = stored r g (request_at l n) request in
    let chain = stored r bytes (descriptors_at l n) (chain_bytes l n (length request) room) in
    let slot = stored r chain (avail_slot_at l n) (to_le_bytes w16 (head_of l n)) in
    stored r slot (avail_index_at l) (to_le_bytes w16 (index_of (n + 1)))

-- In a memory of one region that covers a layout, a submit is four stores of the guest.
abbrev pub SubmitsAreStores : Type 0
SubmitsAreStores =
    (l : Layout) (r : Region) (g : Guest) (n room : ℕ) (request : List ℕ) →
    new_fault l ≡ None → 0 < l.slot → IsCoveredBy l r g → length request ≤ l.slot →
    submit_guest l g n request room ≡ four_stored r l g n request room
