-- The state of the machine with what a run records, which play a party may make, and what is after it.
use Rattle.std.specs.Prelude.{◌≢◌, ℕ, ◌+◌, Bool, nat_le, length, List, [], ◌∷◌, ◌++◌, slice_index_or, slice_set, Result}
use Rattle.std.specs.Prelude.{Ok, Err}
use Rattle.vub_mem.specs.Memory as memory
use Rattle.vub_mem.specs.Place.{content_of, store_at}
use Rattle.vub_proto.specs.declared.used.Used.{Used}
use Rattle.vub_queue.specs.declared.putting.PutFault.{PutFault}
use Rattle.vub_model.specs.declared.cause.StopCause.TheVariants.{Exit}
use Rattle.vub_proto.specs.declared.device_said.DeviceSaid.{DeviceSaid}
use Rattle.vub_model.specs.declared.entry.Entry.{Entry}
use Rattle.vub_model.specs.declared.play.Play.{Play}
use Rattle.vub_model.specs.declared.play.Play.TheVariants as play
use Rattle.vub_model.specs.declared.party.Party.{Party}
use Rattle.vub_model.specs.declared.party.Party.TheVariants as party
use Rattle.vub_model.specs.declared.phase.Phase.{Phase}
use Rattle.vub_model.specs.declared.phase.Phase.TheVariants.{Serving, Taken, Served, Stopped}
use Rattle.vub_model.specs.declared.records.Take.{Take}
use Rattle.vub_model.specs.declared.setup.Guest.{Guest}
use Rattle.vub_model.specs.declared.setup.Guest.TheVariants.{Store, Signal, Harvest}
use Rattle.vub_model.specs.declared.records.Harvested.{Harvested}
use Rattle.vub_model.specs.Logs.{log_at, word_at, without_word}
use Rattle.vub_model.specs.declared.small.Small.{Small}
use Rattle.vub_model.specs.Control.{Control, small_after, MayControl, control_after}
use Rattle.vub_model.specs.Shared.{Shared, ring_at, raised}
use Rattle.vub_model.specs.Service.{Meaning}
use Rattle.vub_model.specs.Wiring.{Wiring}
use Rattle.vub_model.specs.Work.{Local, MayWork, after_work, looked, put_said, may_take}
use Rattle.vub_model.specs.Written.{Spot, put_spots, take_spots, with_spots}
use Rattle.std.specs.Prelude.{if◌then◌else◌}

pub record World (V : Type 0) : Type 0 where
  pub shared : Shared V
  pub wiring : Wiring
  -- by worker
  pub phases : List Phase
  -- the actions of the guest that are left
  pub guest : List Guest
  pub control : Control
  -- what was taken and used so far, in order
  pub takes : List Take
  pub uses : List Used
  -- by object and place, whether takes and puts wrote the byte
  pub written : List (List Bool)
  -- the words that the guest harvested so far, in order
  pub harvests : List Harvested

-- a worker that is not there has stopped
abbrev pub phase_at : List Phase → ℕ → Phase
phase_at phases worker = slice_index_or phases worker (Stopped Exit)

-- Guest

-- the bytes are stored in a content, if they fit there
unfoldable pub stored : memory.Guest → ℕ → ℕ → List ℕ → memory.Guest
stored g object offset bytes =
    if nat_le (offset + length bytes) (length (content_of g.contents object)) then store_at g object offset bytes else g

abbrev pub acted : {V : Type 0} → Shared V → Guest → Shared V
acted h (Store object offset bytes) = record h { guest = stored h.guest object offset bytes }
acted h (Signal object) = raised h object
acted h (Harvest object word) = record h { logs = without_word h.logs object word }

-- the word that an action harvests, with the bits that it had
abbrev pub harvests_by : {V : Type 0} → Shared V → Guest → List Harvested
harvests_by h (Harvest object word) =
    record { object = object; word = word; bits = word_at (log_at h.logs object) word } ∷ []
harvests_by h action = []

abbrev pub after_guest : {V : Type 0} → World V → List Guest → World V
after_guest w [] = w
after_guest w (action ∷ actions) =
    record w {
      shared = acted w.shared action;
      guest = actions;
      harvests = w.harvests ++ harvests_by w.shared action;
    }

-- What a worker's step records

abbrev pub take_of : Entry → Take
take_of e =
    record {
      queue = e.queue;
      epoch = e.epoch;
      number = e.number;
      head = e.chain.head;
      request = e.chain.request;
      room = e.chain.room;
    }

abbrev pub used_of : Entry → List ℕ → Used
used_of e reply = record { queue = e.queue; epoch = e.epoch; number = e.number; head = e.chain.head; reply = reply }

-- what a Take that ends in this phase took
abbrev pub takes_by : Play → Phase → List Take
takes_by play.Take (Taken e queues) = take_of e ∷ []
takes_by l phase = []

abbrev pub if_used : {A : Type 0} → Result Bool PutFault → List A → List A
if_used (Ok wanted) xs = xs
if_used (Err fault) xs = []

-- what a Put that begins in this phase used
abbrev pub uses_by : {V : Type 0} → Shared V → Play → Phase → List Used
uses_by h play.Put (Served e reply queues) = if_used (put_said h e reply) (used_of e reply ∷ [])
uses_by h l phase = []

-- the bytes that a step that begins in this phase wrote
abbrev pub written_by : {V : Type 0} → Shared V → Play → Phase → List Spot
written_by h play.Take (Serving (queue ∷ rest)) =
    if may_take (ring_at h queue) then take_spots h.guest.regions (ring_at h queue).queue (looked h queue) else []
written_by h play.Put (Served e reply queues) =
    if_used (put_said h e reply) (put_spots h.guest.regions (ring_at h e.queue).queue e.chain reply)
written_by h l phase = []

abbrev pub after_local : {V : Type 0} → World V → ℕ → Play → Phase → Local V → World V
after_local w worker l before local =
    record w {
      shared = local.shared;
      phases = slice_set w.phases worker local.phase;
      takes = w.takes ++ takes_by l local.phase;
      uses = w.uses ++ uses_by w.shared l before;
      written = with_spots w.written (written_by w.shared l before);
    }

-- Control

abbrev pub after_control : {V : Type 0} → World V → Small → DeviceSaid → World V
after_control w s said =
    record w { shared = small_after w.wiring w.shared s; control = control_after w.wiring w.shared w.control s said }

-- May and After

-- the party may make this play now
abbrev pub May : {V : Type 0} → World V → Party → Play → Type 0
May w party.Guest play.Guest = w.guest ≢ []
May w party.Control (play.Control s said) = MayControl w.shared w.control.plan.steps s said
May w (party.Worker k) l = MayWork w.wiring k w.shared (phase_at w.phases k) l
May w p l = ⊥

abbrev pub after : {V : Type 0} → Meaning V → World V → Party → Play → World V
after m w party.Guest play.Guest = after_guest w w.guest
after m w party.Control (play.Control s said) = after_control w s said
after m w (party.Worker k) l =
    after_local w k l (phase_at w.phases k) (after_work m w.wiring k w.shared (phase_at w.phases k) l)
after m w p l = w
