-- What a contract sees of a queue: the state of a split virtqueue as the device keeps it (virtio 1.2, 2.7).
use Rattle.std.specs.Prelude.{ℕ, Bool, Option}
use Rattle.vub_queue.specs.declared.addresses.Addresses.{Addresses}

pub record Ring : Type 0 where
  -- the greatest size that the device allows
  pub max : ℕ
  -- how many descriptors the table has, and how many slots each ring
  pub size : ℕ
  pub ready : Bool
  -- whether notifications go by index (VIRTIO_F_EVENT_IDX)
  pub event_idx : Bool
  -- where the three parts lie, once they are set
  pub addresses : Option Addresses
  -- the number of the next entry to take, and of the next to use, each in 16 bits
  pub next_avail : ℕ
  pub next_used : ℕ
  -- what next_used was at the last test for a notification, or when it was last set
  pub told : ℕ
