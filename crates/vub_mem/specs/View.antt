-- What a contract sees of a guest memory, and what always holds of it.
use Rattle.std.specs.Prelude.{ℕ}
use Rattle.vub_mem.specs.Memory.{Memory}
use Rattle.vub_mem.specs.Sound.{IsSoundMemory}
use Rattle.vub_mem.specs.declared.memory.GuestMemory.TheInside.{Inside}

abbrev pub memory_view : {L : Type 0} → Inside L → Memory L
memory_view a =
    record { guest = record { regions = a.regions.items; contents = a.contents }; logs = a.logs.items }

abbrev pub IsSoundInside : {L : Type 0} → (L → ℕ) → Inside L → Type 0
IsSoundInside len a = IsSoundMemory len (memory_view a)
