-- A session as control plays it.
use Rattle.std.specs.Prelude.{ℕ, List, [], replicate, false, Result, Ok, Err, Option, Some, None}
use Rattle.vub_mem.specs.declared.errors.MemError.{MemError}
use Rattle.vub_model.specs.declared.session.Session.{Session}
use Rattle.vub_model.specs.declared.wiring.Known.{Known}
use Rattle.vub_model.specs.Frame.{known_of}
use Rattle.vub_model.specs.RingRecord.{closed_ring}
use Rattle.vub_model.specs.Wiring.{Wiring}
use Rattle.vub_proto.specs.declared.answer.Answer.{Answer}
use Rattle.vub_handler.specs.declared.played.Progress.{Progress}
use Rattle.vub_handler.specs.declared.played.Progress.TheVariants as progress
use Rattle.vub_handler.specs.declared.error.VhostUserHandlerError.{VhostUserHandlerError}
use Rattle.vub_handler.specs.declared.error.VhostUserHandlerError.TheVariants.{MissingMemoryMapping}

pub record Player : Type 0 where
  pub wiring : Wiring
  pub session : Session
  -- by queue, its kick and its flags
  pub known : List Known

-- a session that nothing was asked of
abbrev pub new_session : Session
new_session = record { owned = false; features = 0; protocol = 0; mappings = [] }

abbrev pub new_player : Wiring → Player
new_player g = record { wiring = g; session = new_session; known = replicate g.queues (known_of closed_ring) }

-- there is no other cause than that no mapping holds the address
abbrev pub mapped : Result ℕ MemError → Result ℕ VhostUserHandlerError
mapped (Ok gpa) = Ok gpa
mapped (Err e) = Err MissingMemoryMapping

-- how far a request came by a step that was played
abbrev pub progress_of : Option Answer → Progress
progress_of None = progress.Going
progress_of (Some a) = progress.Done a
