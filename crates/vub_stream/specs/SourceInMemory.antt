-- What a source in memory holds, and what a read does to its counts.
use Rattle.std.specs.Prelude.{◌≡◌, ℕ, List, drop, Result, Ok, Err}
use Rattle.vub_base.specs.Causes.{one_more}
use Rattle.vub_stream.specs.declared.mem_source.MemSource.{MemSource}
use Rattle.vub_stream.specs.declared.source.SourceError.{SourceError}
use Rattle.vub_stream.specs.declared.source.SourceError.TheVariants.{Failed, OutOfMemory}

-- the bytes that are left
abbrev pub unread : MemSource → List ℕ
unread s = drop s.at s.bytes.items

-- the count of faults after a read that answered this
abbrev pub faults_after : ℕ → Result (List ℕ) SourceError → ℕ
faults_after n (Ok bytes) = n
faults_after n (Err Failed) = one_more n
faults_after n (Err OutOfMemory) = n

-- each read is counted, and each fault; nothing else of what the source was made with changes
pub record AfterRead (old new : MemSource) (result : Result (List ℕ) SourceError) : Type 0 where
  pub calls : new.calls ≡ one_more old.calls
  pub faults : new.faults ≡ faults_after old.faults result
  pub piece : new.piece ≡ old.piece
  pub failing : new.failing.items ≡ old.failing.items
