-- What a contract sees of a driver.
use Rattle.std.specs.Prelude.{ℕ, Bool, List}
use Rattle.vub_driver.specs.declared.layout.Layout.{Layout}

pub record State : Type 0 where
  pub layout : Layout
  -- whether notifications go by index (VIRTIO_F_EVENT_IDX)
  pub event_idx : Bool
  -- how many requests were submitted, and how many replies collected
  pub submitted : ℕ
  pub collected : ℕ
  -- the room of the request that was last submitted at each place
  pub rooms : List ℕ
  -- the available index at the last test for a signal
  pub tested : ℕ
