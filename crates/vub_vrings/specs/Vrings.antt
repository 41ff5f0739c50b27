-- What the calls of a ring under a lock may refuse.
use Rattle.std.specs.Prelude.{◌≡◌, ◌⊎◌}
use Rattle.vub_queue.specs.declared.error.QueueError.{QueueError}
use Rattle.vub_queue.specs.declared.error.QueueError.TheVariants.{Outside, InvalidDescriptorIndex}

-- a word of the ring is not in guest memory, or the ring has no addresses
abbrev pub IsOutside : QueueError → Type 0
IsOutside e = e ≡ Outside

-- the same, or the head is no descriptor of the table
abbrev pub IsUseError : QueueError → Type 0
IsUseError e = (e ≡ Outside) ⊎ (e ≡ InvalidDescriptorIndex)
