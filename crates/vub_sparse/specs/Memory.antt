-- A sparse file in memory, as its calls see it.
use Rattle.std.specs.Prelude.{◌≡◌, ◌↔◌, ℕ, Bool, true, not, ◌&&◌, ◌||◌, List, length, if◌then◌else◌, Result, IfOk}
use Rattle.std.specs.Prelude.{IsErrOf}
use Rattle.vub_base.specs.Causes.{one_more, is_listed}
use Rattle.vub_sparse.specs.Cells.{Cell}
use Rattle.vub_sparse.specs.declared.error.FileError.{FileError}
use Rattle.vub_sparse.specs.declared.error.FileError.TheVariants.{Failed}

pub record MemState : Type 0 where
  pub cells : List Cell
  pub cursor : ℕ
  -- how many calls failed or wrote nothing, and how many were made
  pub faults : ℕ
  pub calls : ℕ
  -- the numbers of the calls that fail, and of those that write nothing
  pub failing : List ℕ
  pub stalling : List ℕ

-- this call fails
abbrev pub fails : MemState → Bool
fails s = is_listed s.failing s.calls

-- this call writes nothing; one on both lists fails
abbrev pub stalls : MemState → Bool
stalls s = not (fails s) && is_listed s.stalling s.calls

-- one call was counted, and whether it was a fault; the lists and the position stay
pub record Called (old new : MemState) (fault : Bool) : Type 0 where
  pub calls : new.calls ≡ one_more old.calls
  pub faults : new.faults ≡ (if fault then one_more old.faults else old.faults)
  pub failing : new.failing ≡ old.failing
  pub stalling : new.stalling ≡ old.stalling
  pub cursor : new.cursor ≡ old.cursor

-- a write answers Failed exactly where it is to fail, and 0 where it is to write nothing; else it takes the whole
-- piece, unless memory was refused
pub record Writes (old : MemState) (offset : ℕ) (piece : List ℕ) (result : Result ℕ FileError)
    (new : MemState) : Type 0 where
  pub whole : IfOk result (λ n. n ≡ (if stalls old then 0 else length piece))
  pub failed : IsErrOf result Failed ↔ (fails old ≡ true)
  pub called : Called old new (fails old || stalls old)

-- a flush answers Failed exactly where it is to fail, and leaves the cells
pub record Flushes (old : MemState) (result : Result (Unit {0}) FileError) (new : MemState) : Type 0 where
  pub kept : new.cells ≡ old.cells
  pub failed : IsErrOf result Failed ↔ (fails old ≡ true)
  pub called : Called old new (fails old)
