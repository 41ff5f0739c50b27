-- In which phase a worker makes which step, whether or not its parts tell what they hold.
use Rattle.std.specs.Prelude.{◌≡◌, ℕ, Bool, true, false, ◌⊎◌}
use Rattle.vub_model.specs.declared.cause.StopCause.TheVariants.{Fault}
use Rattle.vub_model.specs.declared.cause.VringEpollError.TheVariants.{EpollWait, HandleEventBackendHandling}
use Rattle.vub_model.specs.declared.phase.Phase.{Phase}
use Rattle.vub_model.specs.declared.phase.Phase.TheVariants.{Idle, Polled, Sweep, Heard, Serving, Taken, Served}
use Rattle.vub_model.specs.declared.phase.Phase.TheVariants.{Stopped}
use Rattle.vub_model.specs.declared.play.Play.{Play}
use Rattle.vub_model.specs.declared.play.Play.TheVariants as play
use Rattle.vub_loop.specs.declared.turned.Turned.{Turned}
use Rattle.vub_loop.specs.declared.turned.Turned.TheVariants as turned

abbrev pub is_idle : Phase → Bool
is_idle Idle = true
is_idle phase = false

abbrev pub is_polled : Phase → Bool
is_polled (Polled object token) = true
is_polled phase = false

abbrev pub is_rung : Phase → Bool
is_rung Sweep = true
is_rung phase = false

abbrev pub is_heard : Phase → Bool
is_heard (Heard token) = true
is_heard phase = false

abbrev pub is_serving : Phase → Bool
is_serving (Serving queues) = true
is_serving phase = false

abbrev pub is_taken : Phase → Bool
is_taken (Taken e queues) = true
is_taken phase = false

abbrev pub is_served : Phase → Bool
is_served (Served e reply queues) = true
is_served phase = false

abbrev pub is_stopped : Phase → Bool
is_stopped (Stopped cause) = true
is_stopped phase = false

-- this play is one of this phase
abbrev pub is_of : Play → Phase → Bool
is_of (play.Poll object) phase = is_idle phase
is_of play.Event phase = is_polled phase
is_of play.Sweep phase = is_rung phase
is_of (play.Hear said) phase = is_heard phase
is_of play.Take phase = is_serving phase
is_of play.Serve phase = is_taken phase
is_of play.Put phase = is_served phase
is_of l phase = false

-- the worker has polled this object
abbrev pub HasPolled : ℕ → Phase → Type 0
HasPolled object (Polled o token) = o ≡ object
HasPolled object phase = ⊥

-- A step is made exactly in a phase of its kind; one that is not made leaves the phase.
abbrev pub MadeIn : (Phase → Bool) → Bool → Phase → Phase → Type 0
MadeIn is_kind made before now = (made ≡ is_kind before) × (made ≡ false → now ≡ before)

-- A poll is made only in an idle worker; one that is not made leaves the phase.
abbrev pub PolledIn : Bool → Phase → Phase → Type 0
PolledIn made before now = (made ≡ true → before ≡ Idle) × (made ≡ false → now ≡ before)

-- A turn plays a step of the phase. It passes only in an idle worker and in one that has stopped, and then the phase
-- stays; and a poll at which the host failed has stopped an idle worker.
abbrev pub TurnedIn : Turned → Phase → Phase → Type 0
TurnedIn turned.Pass before now = ((is_idle before ≡ true) ⊎ (is_stopped before ≡ true)) × (now ≡ before)
TurnedIn (turned.Played l) before now = is_of l before ≡ true
TurnedIn turned.Failed before now = (before ≡ Idle) × (now ≡ Stopped (Fault EpollWait))

-- the worker has queues to serve
abbrev pub has_queues : Phase → Bool
has_queues (Serving queues) = true
has_queues (Taken e queues) = true
has_queues (Served e reply queues) = true
has_queues phase = false

-- Where serving leads: on with a list of queues, to an idle worker, or to one that stopped since it could not handle an
-- event.
abbrev pub ServesTo : Phase → Type 0
ServesTo Idle = Unit {0}
ServesTo (Serving queues) = Unit {0}
ServesTo (Taken e queues) = Unit {0}
ServesTo (Served e reply queues) = Unit {0}
ServesTo (Stopped (Fault (HandleEventBackendHandling w))) = Unit {0}
ServesTo phase = ⊥

-- a step of a worker that has queues to serve leads there, if it was made
abbrev pub ServedIn : Bool → Phase → Phase → Type 0
ServedIn made before now = made ≡ true → ServesTo now

-- and so does any number of them
abbrev pub GoesOn : Phase → Phase → Type 0
GoesOn before now = has_queues before ≡ true → ServesTo now
