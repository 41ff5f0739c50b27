-- Where the parts of a ring's words lie in guest memory (virtio 1.2: the descriptor table 2.7.5, the available ring
-- 2.7.6, the used ring 2.7.8). All of them are little-endian.
use Rattle.std.specs.Prelude.{ℕ, ◌+◌, ◌*◌, ◌%◌}
use Rattle.std.specs.Option.{unwrap_or}
use Rattle.vub_queue.specs.Ring.{Ring}
use Rattle.vub_queue.specs.declared.addresses.Addresses.{Addresses}

-- where the three parts lie, which are set wherever this is asked
abbrev pub at_of : Ring → Addresses
at_of r = unwrap_or r.addresses (record { desc = 0; avail = 0; used = 0 })

-- A table of descriptors: where it begins, and how many it has.
pub record Table : Type 0 where
  pub base : ℕ
  pub size : ℕ

abbrev pub table_of : Ring → Table
table_of r = record { base = (at_of r).desc; size = r.size }

-- the descriptor with this number, which has 16 bytes
abbrev pub slot_of : Table → ℕ → ℕ
slot_of t i = t.base + 16 * i

-- The available ring: flags, index, one slot of two bytes for each descriptor, used_event. Entry n stands in slot
-- n modulo size.
abbrev pub avail_index_at : Ring → ℕ
avail_index_at r = (at_of r).avail + 2

abbrev pub avail_slot_at : Ring → ℕ
avail_slot_at r = (at_of r).avail + (4 + 2 * (r.next_avail % r.size))

abbrev pub used_event_at : Ring → ℕ
used_event_at r = (at_of r).avail + (4 + 2 * r.size)

-- The used ring: flags, index, one element of eight bytes for each descriptor, avail_event.
abbrev pub used_flags_at : Ring → ℕ
used_flags_at r = (at_of r).used

abbrev pub used_index_at : Ring → ℕ
used_index_at r = (at_of r).used + 2

abbrev pub used_element_at : Ring → ℕ
used_element_at r = (at_of r).used + (4 + 8 * (r.next_used % r.size))

abbrev pub avail_event_at : Ring → ℕ
avail_event_at r = (at_of r).used + (4 + 8 * r.size)
