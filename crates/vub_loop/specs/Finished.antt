-- The entry and the reply that a step used.
use Rattle.std.specs.Prelude.{Option, Some, None}
use Rattle.vub_model.specs.declared.phase.Phase.{Phase}
use Rattle.vub_model.specs.declared.phase.Phase.TheVariants.{Served, Stopped}
use Rattle.vub_model.specs.declared.play.Play.{Play}
use Rattle.vub_model.specs.declared.play.Play.TheVariants as play
use Rattle.vub_loop.specs.declared.finished.Finished.{Finished}
use Rattle.vub_loop.specs.declared.turned.Turned.{Turned}
use Rattle.vub_loop.specs.declared.turned.Turned.TheVariants.{Played}

-- A Put that did not stop the worker used the entry that it began with, with the reply. Any other step used none.
abbrev pub finished_by : Play → Phase → Phase → Option Finished
finished_by play.Put (Served e reply queues) (Stopped cause) = None
finished_by play.Put (Served e reply queues) now = Some (record { entry = e; reply = reply })
finished_by l before now = None

-- the same of a turn
abbrev pub finished_in : Turned → Phase → Phase → Option Finished
finished_in (Played l) before now = finished_by l before now
finished_in t before now = None
