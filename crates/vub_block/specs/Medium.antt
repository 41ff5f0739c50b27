-- The file that keeps a disk's sectors.
use Rattle.std.specs.Prelude.{◌≡◌, ◌*◌, ◌/◌, ◌≤◌, [], length}
use Rattle.vub_sparse.specs.Memory.{MemState}

-- no call of it fails or writes nothing, and it has whole sectors, not too many
pub record IsMedium (f : MemState) : Type 0 where
  pub failing : f.failing ≡ []
  pub stalling : f.stalling ≡ []
  pub whole : 512 * (length f.cells / 512) ≡ length f.cells
  pub most : length f.cells / 512 ≤ 131072
