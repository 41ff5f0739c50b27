-- A small machine: a driver and a device over one memory and one ring.
use Rattle.std.specs.Prelude.{◌≡◌, ℕ, ◌≤◌, Bool, true, false, List, [], ◌∷◌, ◌++◌, length, Option, Some, None, Result}
use Rattle.std.specs.Prelude.{Ok, Err}
use Rattle.vub_mem.specs.Memory.{Guest}
use Rattle.vub_queue.specs.Notification.{ring_told}
use Rattle.vub_queue.specs.Put.{put_answer, put_guest, ring_used}
use Rattle.vub_queue.specs.Ring.{Ring}
use Rattle.vub_queue.specs.Take.{Taken, guest_taken, ring_taken}
use Rattle.vub_queue.specs.declared.chain.Chain.{Chain}
use Rattle.vub_queue.specs.declared.took.Took.{Took}
use Rattle.vub_queue.specs.declared.took.Took.TheVariants as took
use Rattle.vub_driver.specs.Calls.{Submits, collect_answer, state_collected}
use Rattle.vub_driver.specs.State.{State}
use Rattle.vub_driver.specs.declared.done.Done.{Done}
use Rattle.vub_driver.specs.declared.error.DriverError.{DriverError}

-- what is asked of the device: the bytes of a request, and the room for its reply
pub record Asked : Type 0 where
  pub request : List ℕ
  pub room : ℕ

pub record World : Type 0 where
  pub driver : State
  pub guest : Guest
  pub ring : Ring
  -- the requests that submits accepted, and those of the entries that the device took, each in order
  pub asked : List Asked
  pub taken : List Asked
  -- the entry that was taken and not put yet
  pub held : Option Chain
  -- the replies that were put, and the answers that were collected, each in order
  pub replies : List (List ℕ)
  pub answers : List Done
  -- the device waits for a signal: it found nothing since the last accepted submit, or no submit was accepted yet
  pub waits : Bool

-- a call with its answer; one that answers want of memory changes nothing, and is no step
pub data Call : Type 0 where
  submits : List ℕ → ℕ → Result Bool DriverError → Call
  collects : Result (Option Done) DriverError → Call
  takes : Took → Call
  puts : List ℕ → Bool → Call
  resumes : Ring → Call

abbrev pub asked_more : List Asked → List ℕ → ℕ → Result Bool DriverError → List Asked
asked_more asked request room (Ok signal) = asked ++ record { request = request; room = room } ∷ []
asked_more asked request room (Err e) = asked

abbrev pub waits_more : Bool → Result Bool DriverError → Bool
waits_more waits (Ok signal) = false
waits_more waits (Err e) = waits

abbrev pub answers_more : List Done → Result (Option Done) DriverError → List Done
answers_more answers (Ok (Some d)) = answers ++ d ∷ []
answers_more answers (Ok None) = answers
answers_more answers (Err e) = answers

abbrev pub taken_more : List Asked → Took → List Asked
taken_more taken (took.Entry c) = taken ++ record { request = c.request; room = c.room } ∷ []
taken_more taken took.None = taken
taken_more taken (took.Damaged d) = taken

abbrev pub held_by : Took → Option Chain
held_by (took.Entry c) = Some c
held_by took.None = None
held_by (took.Damaged d) = None

abbrev pub waits_by : Bool → Took → Bool
waits_by waits (took.Entry c) = waits
waits_by waits took.None = true
waits_by waits (took.Damaged d) = waits

-- the ring is set up as it was, and goes on at its numbers, as after a stop and a start at the answered base
pub record Resumes (old new : Ring) : Type 0 where
  pub size : new.size ≡ old.size
  pub event_idx : new.event_idx ≡ old.event_idx
  pub addresses : new.addresses ≡ old.addresses
  pub next_avail : new.next_avail ≡ old.next_avail
  pub next_used : new.next_used ≡ old.next_used

-- One step of the machine is a call, made as its own contract says. An entry that is taken is put before the next take;
-- and between two entries the device may set up its ring anew.
abbrev pub Step : World → Call → World → Type 0
Step w (submits request room a) v =
    Submits w.driver w.guest request room a v.driver v.guest
    × (v ≡ record w {
      driver = v.driver;
      guest = v.guest;
      asked = asked_more w.asked request room a;
      waits = waits_more w.waits a;
    })
Step w (collects a) v =
    (a ≡ collect_answer w.driver w.guest)
    × (v ≡ record w { driver = state_collected w.driver a; answers = answers_more w.answers a })
Step w (takes t) v =
    (w.held ≡ None)
    × Taken w.guest w.ring t
    × (v ≡ record w {
      guest = guest_taken w.guest w.ring t;
      ring = ring_taken w.ring t;
      taken = taken_more w.taken t;
      held = held_by t;
      waits = waits_by w.waits t;
    })
Step w (puts reply signal) v =
    (c : Chain)
    × (w.held ≡ Some c)
    × (length reply ≤ c.room)
    × (put_answer w.guest.regions w.ring c reply signal ≡ Ok signal)
    × (v ≡ record w {
      guest = put_guest w.guest w.ring c reply;
      ring = ring_told (ring_used w.ring);
      held = None;
      replies = w.replies ++ reply ∷ [];
    })
Step w (resumes q) v = (w.held ≡ None) × Resumes w.ring q × (v ≡ record w { ring = q })

abbrev pub Runs : World → List Call → World → Type 0
Runs w [] v = v ≡ w
Runs w (c ∷ cs) v = (u : World) × Step w c u × Runs u cs v
