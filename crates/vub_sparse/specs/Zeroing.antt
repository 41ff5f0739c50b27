-- The writes of which zero writing is made, by what a file's own write may answer (`W`: the file before, the offset,
-- the bytes, the answer, the file after).
use Rattle.std.specs.Prelude.{◌≡◌, ℕ, ◌+◌, ◌<◌, ◌⊎◌, List, replicate, Result, Ok, Err}
use Rattle.vub_sparse.specs.declared.error.FileError.{FileError}
use Rattle.vub_sparse.specs.declared.error.FileError.TheVariants.{EINVAL, WriteZero, Failed, OutOfMemory}

module _ {F : Type 0} (W : F → ℕ → List ℕ → Result ℕ FileError → F → Type 0) where
  -- one write of some zero bytes at this offset answered this
  abbrev pub Answers : ℕ → F → Result ℕ FileError → F → Type 0
  Answers offset before answer now = (count : ℕ) × (0 < count) × W before offset (replicate count 0) answer now

  -- from the offset on so many zero bytes were written, by writes of which each took some
  pub data Zeroes (offset : ℕ) (first : F) : ℕ → F → Type 0 where
    none : Zeroes offset first 0 first
    more : {done n : ℕ} {before now : F} → Zeroes offset first done before → 0 < n →
        Answers (offset + done) before (Ok n) now → Zeroes offset first (done + n) now

  -- so many zero bytes were written, and then a write answered this
  abbrev pub ZeroesThen : ℕ → F → ℕ → Result ℕ FileError → F → Type 0
  ZeroesThen offset first done answer now =
      (before : F) × Zeroes offset first done before × Answers (offset + done) before answer now

  -- so many were written: all of them, or fewer, where the next write took nothing
  abbrev pub ZeroesUpTo : ℕ → F → ℕ → ℕ → F → Type 0
  ZeroesUpTo offset first length done now =
      ((done ≡ length) × Zeroes offset first done now) ⊎ ((done < length) × ZeroesThen offset first done (Ok 0) now)

  -- the refusal is that of the write that ended it, a write of nothing being WriteZero, or nothing was written
  abbrev pub Refuses : ℕ → F → ℕ → FileError → F → Type 0
  Refuses offset first length EINVAL now = now ≡ first
  Refuses offset first length WriteZero now = (done : ℕ) × (done < length) × ZeroesThen offset first done (Ok 0) now
  Refuses offset first length Failed now = (done : ℕ) × (done < length) × ZeroesThen offset first done (Err Failed) now
  Refuses offset first length OutOfMemory now =
      (done : ℕ) × (done < length) × ZeroesThen offset first done (Err OutOfMemory) now

  -- A stream writes at the position, and then moves it (`M`: the file before, the place, the file after).
  module _ (M : F → ℕ → F → Type 0) where
    -- so many were written, all of them or fewer, and then the position was moved to their end
    abbrev pub StreamsUpTo : ℕ → F → ℕ → ℕ → F → Type 0
    StreamsUpTo offset first length done now =
        (left : F) × ZeroesUpTo offset first length done left × M left (offset + done) now

    -- all were written, and then the position was moved to their end
    abbrev pub Streams : ℕ → F → ℕ → F → Type 0
    Streams offset first length now = (left : F) × Zeroes offset first length left × M left (offset + length) now

    -- the refusal is that of the write that ended it, or nothing was written; at a write of nothing the position was
    -- moved to the end of what was written
    abbrev pub RefusesStream : ℕ → F → ℕ → FileError → F → Type 0
    RefusesStream offset first length EINVAL now = Refuses offset first length EINVAL now
    RefusesStream offset first length WriteZero now =
        (left : F) × (done : ℕ) × (done < length)
        × ZeroesThen offset first done (Ok 0) left × M left (offset + done) now
    RefusesStream offset first length Failed now = Refuses offset first length Failed now
    RefusesStream offset first length OutOfMemory now = Refuses offset first length OutOfMemory now
