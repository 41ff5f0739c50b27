-- What kind of step a turn was: which of the run's lists tells of it. A label says which step a party made, and not what
-- the step found; that is told by what its party does next, and at the end of a run by the lists.
use Rattle.std.specs.Prelude.{ℕ, Bool, true, false, ◌&&◌, ◌==◌, not, if◌then◌else◌, List, [], ◌∷◌, Option, Some, None}
use Rattle.std.specs.Prelude.{position, slice_get}
use Rattle.std.specs.List.{list_any}
use Rattle.vub_model.specs.declared.label.Label.{Label}
use Rattle.vub_model.specs.declared.label.Label.TheVariants as label
use Rattle.vub_model.specs.declared.records.Take as records
use Rattle.vub_model.specs.declared.records.Stop.{Stop}
use Rattle.vub_model.specs.declared.run.Run.{Run}
use Rattle.vub_model.specs.declared.small.Small.{Small}
use Rattle.vub_model.specs.declared.small.Small.TheVariants as small
use Rattle.vub_model.specs.Wiring.{has_bit}
use Rattle.vub_text.specs.Lines.{is_played}
use Rattle.vub_trace.specs.declared.kind.Follows.{Follows}
use Rattle.vub_trace.specs.declared.kind.Follows.TheVariants as follows
use Rattle.vub_trace.specs.declared.kind.Kind.{Kind}
use Rattle.vub_trace.specs.declared.kind.Kind.TheVariants as kind
use Rattle.vub_trace.specs.declared.past.Past.{Past}

abbrev pub following : Label → Follows
following label.Serve = follows.Serve
following l = follows.Other

-- what this party does in a turn with this label, if it is the turn's and does something
abbrev pub follows_in : ℕ → ℕ → Label → Option Follows
follows_in party turn l = if turn == party && is_played l then Some (following l) else None

abbrev pub or_later : Option Follows → Follows → Follows
or_later (Some f) later = f
or_later None later = later

-- what this party does next in these turns
abbrev pub follows_of : ℕ → List ℕ → List Label → Follows
follows_of party [] labels = follows.Nothing
follows_of party (turn ∷ turns) [] = follows.Nothing
follows_of party (turn ∷ turns) (l ∷ labels) = or_later (follows_in party turn l) (follows_of party turns labels)

-- whether the worker has stopped in the end
abbrev pub is_stopped : List Stop → ℕ → Bool
is_stopped stops worker = list_any (λ s. s.worker == worker) stops

abbrev pub is_worker : Option ℕ → ℕ → Bool
is_worker None worker = false
is_worker (Some found) worker = found == worker

-- whether the queue is served by this worker, the first whose mask has its bit
abbrev pub is_of_worker : List ℕ → ℕ → ℕ → Bool
is_of_worker masks queue worker = is_worker (position (λ mask. has_bit mask queue) masks) worker

abbrev pub is_take_of : List ℕ → ℕ → Option records.Take → Bool
is_take_of masks worker None = false
is_take_of masks worker (Some t) = is_of_worker masks t.queue worker

-- A worker that took an entry asks the service next. Where it has no further step, it has an entry in hand exactly if
-- the next entry that was taken is of one of its queues, and it has not stopped.
abbrev pub kind_of_take : List ℕ → Run → Past → ℕ → Follows → Kind
kind_of_take masks run past worker follows.Serve = kind.Take
kind_of_take masks run past worker follows.Other = kind.Look
kind_of_take masks run past worker follows.Nothing =
    if is_take_of masks worker (slice_get run.takes past.taken) && not (is_stopped run.stops worker)
    then kind.Take else kind.Look

-- A worker that could not use its entry has stopped, and has no further step.
abbrev pub kind_of_put : Run → ℕ → Follows → Kind
kind_of_put run worker follows.Serve = kind.Use
kind_of_put run worker follows.Other = kind.Use
kind_of_put run worker follows.Nothing = if is_stopped run.stops worker then kind.Miss else kind.Use

abbrev pub kind_of_small : Small → Kind
kind_of_small (small.Device op) = kind.Call
kind_of_small small.Answer = kind.Answer
kind_of_small s = kind.Change

-- the kind of a step with this label, of the worker with this number if it is a worker's, where this follows
abbrev pub kind_of : List ℕ → Run → Past → ℕ → Label → Follows → Kind
kind_of masks run past worker label.Pass next = kind.Pass
kind_of masks run past worker label.Guest next = kind.Act
kind_of masks run past worker (label.Control s) next = kind_of_small s
kind_of masks run past worker (label.Poll object) next = kind.Poll
kind_of masks run past worker label.Event next = kind.Event
kind_of masks run past worker label.Sweep next = kind.Sweep
kind_of masks run past worker label.Hear next = kind.Hear
kind_of masks run past worker label.Take next = kind_of_take masks run past worker next
kind_of masks run past worker label.Serve next = kind.Serve
kind_of masks run past worker label.Put next = kind_of_put run worker next
