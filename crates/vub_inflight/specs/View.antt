-- What a contract sees of the fields, and what every ring with a record keeps.
use Rattle.std.specs.Prelude.{◌≡◌, ◌<◌, ℕ, length, IsSome}
use Rattle.vub_inflight.specs.declared.stage.Stage.{Stage}
use Rattle.vub_inflight.specs.declared.stage.Stage.TheVariants.{Settled, Marked, Published, Cleared}
use Rattle.vub_inflight.specs.State.{State}
use Rattle.vub_inflight.specs.declared.ring.InflightRing.TheInside.{Inside}

abbrev pub state_of : Inside → State
state_of r =
    record { ring = r.queue; last = r.last; used = r.used; slots = r.slots.items; next = r.next; stage = r.stage }

-- the head of a stage is below this size
abbrev pub StageIsBelow : Stage → ℕ → Type 0
StageIsBelow Settled n = Unit {0}
StageIsBelow (Marked h) n = h < n
StageIsBelow (Published h) n = h < n
StageIsBelow Cleared n = Unit {0}

-- The queue's addresses are set, the record has a slot for each descriptor, and its heads are descriptors of the table.
pub record IsSound (r : Inside) : Type 0 where
  pub addresses : IsSome r.queue.addresses
  pub slots : length r.slots.items ≡ r.queue.size
  pub last : r.last < r.queue.size
  pub stage : StageIsBelow r.stage r.queue.size
