-- What a write does to a sink in memory.
use Rattle.std.specs.Prelude.{◌≡◌, ℕ, ◌-◌, min, length, nat_eq, nat_lt, if◌then◌else◌, Result, Ok, Err}
use Rattle.vub_base.specs.Causes.{is_listed, one_more}
use Rattle.vub_stream.specs.declared.mem_sink.MemSink.{MemSink}
use Rattle.vub_stream.specs.declared.sink.SinkError.{SinkError}
use Rattle.vub_stream.specs.declared.sink.SinkError.TheVariants.{Failed}

-- how many bytes of a piece of this length go in: none at a call that is to take none, else the least of the length,
-- of the greatest piece and of the room that is left
abbrev pub room_for : MemSink → ℕ → ℕ
room_for s n = if is_listed s.stalling.items s.calls then 0 else min (min n s.piece) (s.room - length s.bytes.items)

-- the count of faults after a write of a piece of this length that answered this: a fault is a failed write, and one
-- that takes none of some bytes
abbrev pub faults_after : ℕ → ℕ → Result ℕ SinkError → ℕ
faults_after n len (Ok count) = if nat_eq count 0 then (if nat_lt 0 len then one_more n else n) else n
faults_after n len (Err Failed) = one_more n

-- each write is counted, and each fault; nothing else of what the sink was made with changes
pub record AfterWrite (old new : MemSink) (len : ℕ) (result : Result ℕ SinkError) : Type 0 where
  pub calls : new.calls ≡ one_more old.calls
  pub faults : new.faults ≡ faults_after old.faults len result
  pub piece : new.piece ≡ old.piece
  pub room : new.room ≡ old.room
  pub failing : new.failing.items ≡ old.failing.items
  pub stalling : new.stalling.items ≡ old.stalling.items
