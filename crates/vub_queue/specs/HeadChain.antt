-- What the chain of a head is, and how many steps it takes to read it.
use Rattle.std.specs.Prelude.{◌≡◌, ℕ, ◌+◌, List, length}
use Rattle.vub_mem.specs.Memory.{Guest}
use Rattle.vub_queue.specs.Chain.{IsChain, chain_of}
use Rattle.vub_queue.specs.Layout.{table_of}
use Rattle.vub_queue.specs.Ring.{Ring}
use Rattle.vub_queue.specs.Walk.{CostsFailure, FailsFirst}
use Rattle.vub_queue.specs.declared.descriptor.Descriptor.{Descriptor}
use Rattle.vub_queue.specs.declared.took.Took.{Took}
use Rattle.vub_queue.specs.declared.took.Took.TheVariants as took

-- A head gives the entry that its chain makes, or the first test that a descriptor fails.
abbrev pub ChainGives : Guest → Ring → ℕ → Took → Type 0
ChainGives g r head (took.Entry c) = (ds : List Descriptor) × IsChain g (table_of r) head ds × (c ≡ chain_of g head ds)
ChainGives g r head took.None = ⊥
ChainGives g r head (took.Damaged d) = FailsFirst g (table_of r) head d

-- a step for each descriptor that was read
abbrev pub ChainCosts : Guest → Ring → ℕ → ℕ → ℕ → Took → Type 0
ChainCosts g r head old new (took.Entry c) =
    (ds : List Descriptor) → IsChain g (table_of r) head ds → new ≡ old + length ds
ChainCosts g r head old new took.None = Unit {0}
ChainCosts g r head old new (took.Damaged d) = CostsFailure g (table_of r) head d old new
