-- A driver and a device understand each other.
use Rattle.std.specs.Prelude.{◌≡◌, ℕ, ◌+◌, ◌*◌, ◌<◌, true, Bool, List, [], ◌∷◌, length, take, Some, None, Ok, IsOk}
use Rattle.vub_mem.specs.Memory.{Guest}
use Rattle.vub_mem.specs.Place.{covers, byte_at}
use Rattle.vub_mem.specs.Sound.{IsSound}
use Rattle.vub_mem.specs.declared.region.Region.{Region}
use Rattle.vub_queue.specs.Ring.{Ring}
use Rattle.vub_driver.specs.Calls.{Submits, collect_answer, new_state}
use Rattle.vub_driver.specs.Layouts.{new_fault}
use Rattle.vub_driver.specs.Machine.{World, Call, Runs}
use Rattle.vub_driver.specs.State.{State}
use Rattle.vub_driver.specs.declared.done.Done.{Done}
use Rattle.vub_driver.specs.declared.layout.Layout.{Layout}

-- a sound memory of this region alone, which covers the areas of the layout
pub record IsCoveredBy (l : Layout) (r : Region) (g : Guest) : Type 0 where
  pub sound : IsSound g
  pub one : g.regions ≡ r ∷ []
  pub desc : covers g.regions l.desc (16 * l.size) ≡ true
  pub avail : covers g.regions l.avail (6 + 2 * l.size) ≡ true
  pub used : covers g.regions l.used (6 + 8 * l.size) ≡ true
  pub buffers : covers g.regions l.buffers (l.slot * l.size) ≡ true

-- such a memory, whose bytes are zero
pub record IsBlank (l : Layout) (g : Guest) : Type 0 where
  pub region : Region
  pub covered : IsCoveredBy l region g
  pub zero : (a : ℕ) → byte_at g a ≡ 0

-- a new queue of that size, with those addresses
pub record IsNewRing (l : Layout) (r : Ring) : Type 0 where
  pub size : r.size ≡ l.size
  pub addresses : r.addresses ≡ Some (record { desc = l.desc; avail = l.avail; used = l.used })
  pub next_avail : r.next_avail ≡ 0
  pub next_used : r.next_used ≡ 0

-- A new driver of a layout that it takes, with buffers, over a blank memory and beside a new queue with the same
-- EVENT_IDX setting; nothing has happened.
pub record Begins (l : Layout) (w : World) : Type 0 where
  pub layout : new_fault l ≡ None
  pub some : 0 < l.slot
  pub guest : IsBlank l w.guest
  pub ring : IsNewRing l w.ring
  pub driver : w.driver ≡ new_state l w.ring.event_idx
  pub asked : w.asked ≡ []
  pub taken : w.taken ≡ []
  pub held : w.held ≡ None
  pub replies : w.replies ≡ []
  pub answers : w.answers ≡ []
  pub waits : w.waits ≡ true

-- replies with their numbers, from n on
abbrev pub numbered : ℕ → List (List ℕ) → List Done
numbered n [] = []
numbered n (r ∷ rs) = record { number = n; reply = r } ∷ numbered (n + 1) rs

-- the entries that were taken are the first accepted requests, in order, with their bytes and room
abbrev pub TakesAsAsked : World → Type 0
TakesAsAsked w = w.taken ≡ take (length w.taken) w.asked

-- the answers are the first replies, in order, each once
abbrev pub AnswersInOrder : World → Type 0
AnswersInOrder w = w.answers ≡ take (length w.answers) (numbered 0 w.replies)

-- all of them are collected where a collect would find nothing
abbrev pub AnswersAll : World → Type 0
AnswersAll w = collect_answer w.driver w.guest ≡ Ok None → w.answers ≡ numbered 0 w.replies

-- where the device waits, the next submit that is accepted asks for a signal
abbrev pub IsSignalled : World → Type 0
IsSignalled w =
    w.waits ≡ true →
    (request : List ℕ) (room : ℕ) (signal : Bool) (t : State) (h : Guest) →
    Submits w.driver w.guest request room (Ok signal) t h →
    signal ≡ true

-- What holds after any list of calls.
pub record Understands (w : World) : Type 0 where
  pub asks : TakesAsAsked w
  pub order : AnswersInOrder w
  pub all : AnswersAll w
  pub signals : IsSignalled w
  -- no collect is refused
  pub trusts : IsOk (collect_answer w.driver w.guest)

abbrev pub DriverUnderstands : Type 0
DriverUnderstands = (l : Layout) (w v : World) (calls : List Call) → Begins l w → Runs w calls v → Understands v
