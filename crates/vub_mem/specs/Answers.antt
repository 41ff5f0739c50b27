-- What calls on guest memory answer.
use Rattle.std.specs.Prelude.{◌≡◌, ℕ, List, Bool, true, false, Result, Ok, Err}
use Rattle.vub_base.specs.declared.octets.Bytes.{Bytes}
use Rattle.vub_mem.specs.declared.errors.MemError.{MemError}
use Rattle.vub_mem.specs.declared.errors.MemError.TheVariants.{Empty, Order, Overlap, Wraps, PastObject, NoSuchRegion}
use Rattle.vub_mem.specs.declared.errors.MemError.TheVariants.{Outside, MissingMemoryMapping, OutOfMemory}

abbrev pub ReadFails : MemError → Bool → Type 0
ReadFails Outside covered = covered ≡ false
ReadFails OutOfMemory covered = Unit {0}
ReadFails Empty covered = ⊥
ReadFails Order covered = ⊥
ReadFails Overlap covered = ⊥
ReadFails Wraps covered = ⊥
ReadFails PastObject covered = ⊥
ReadFails NoSuchRegion covered = ⊥
ReadFails MissingMemoryMapping covered = ⊥

-- the bytes of a covered range, Outside exactly where it is not covered, or want of memory
abbrev pub ReadsBytes : Result Bytes MemError → Bool → List ℕ → Type 0
ReadsBytes (Ok b) covered bytes = (covered ≡ true) × (b ≡ bytes)
ReadsBytes (Err e) covered bytes = ReadFails e covered
