-- What a store of all parts but the service holds, and what its calls do to its rings, its memory and its host.
use Rattle.std.specs.Prelude.{◌≡◌, ℕ, ◌*◌, ◌<◌, List, [], ◌∷◌, slice_index_or, slice_set, Option, Some, None}
use Rattle.vub_log.specs.Plain.{Plain, harvest_count}
use Rattle.vub_mem.specs.declared.dirty.Stored.{Stored}
use Rattle.vub_mem.specs.Memory.{Guest}
use Rattle.vub_queue.specs.declared.chain.Chain.{Chain}
use Rattle.vub_model.specs.RingRecord.{Vring, closed_ring}
use Rattle.vub_model.specs.Logs.{log_at}
use Rattle.vub_model.specs.Shared.{Shared}
use Rattle.vub_model.specs.declared.setup.Guest.{Guest as Action}
use Rattle.vub_model.specs.declared.setup.Guest.TheVariants.{Harvest}
use Rattle.vub_ring.specs.declared.ops.TableRing.{TableRing}
use Rattle.vub_ring.specs.declared.ops.TableRingSaid.{TableRingSaid}
use Rattle.vub_ring.specs.declared.ops.PutSaid.{PutSaid}
use Rattle.vub_ring.specs.declared.ops.PendOp.{PendOp}
use Rattle.vub_ring.specs.declared.ops.PendOp.TheVariants as pend
use Rattle.vub_ring.specs.declared.ops.PendSaid.{PendSaid}
use Rattle.vub_vring.specs.declared.store.Store.{Store}
use Rattle.vub_ring.specs.Play.{TablePlays, PutPlays, PendPlays}

abbrev pub shared_of : {V : Type 0} → Store → V → Shared V
shared_of s v = record {
  guest = s.memory.guest;
  rings = s.rings.items;
  logs = s.memory.logs;
  table = s.host.table;
  pending = s.pending.items;
  service = v;
}

-- the ring of a queue; one that is not there is closed
abbrev pub ring_in : List Vring → ℕ → Vring
ring_in rings queue = slice_index_or rings queue closed_ring

-- the pending set of a worker; one that is not there is empty
abbrev pub pending_in : List (List ℕ) → ℕ → List ℕ
pending_in sets worker = slice_index_or sets worker []

-- a step of the ring of a queue together with guest memory
abbrev pub RingTableAt : ℕ → TableRing → TableRingSaid → List Vring → Guest → List Vring → Guest → Type 0
RingTableAt queue o said rings g after guest =
    (ring : Vring) × TablePlays o said (ring_in rings queue) g ring guest × (after ≡ slice_set rings queue ring)

-- the same of a ring that is not there
abbrev pub ClosedPlays : TableRing → TableRingSaid → Guest → Type 0
ClosedPlays o said g = (ring : Vring) × TablePlays o said closed_ring g ring g

-- a use of an entry of a queue
abbrev pub PutsAt : ℕ → Chain → List ℕ → PutSaid → List Vring → Guest → List Vring → Guest → Type 0
PutsAt queue c reply said rings g after guest =
    (ring : Vring) × PutPlays c reply said (ring_in rings queue) g ring guest × (after ≡ slice_set rings queue ring)

-- what an op would leave of an empty set
abbrev pub left_by : PendOp → List ℕ
left_by (pend.Insert n) = n ∷ []
left_by o = []

-- a change of a worker's pending set
abbrev pub PendsAt : ℕ → PendOp → PendSaid → List (List ℕ) → List (List ℕ) → Type 0
PendsAt worker o said sets after =
    (set : List ℕ) × PendPlays o said (pending_in sets worker) set × (after ≡ slice_set sets worker set)

-- Harvests

-- the log has this word, and it was not harvested as often as it can be
pub record MayHarvest (logs : List (Stored Plain)) (object word : ℕ) : Type 0 where
  pub has : 4 * word < (log_at logs object).len
  pub left : harvest_count (log_at logs object) word < 4294967295

-- the action, if it is a harvest, may be made
abbrev pub MayAct : List (Stored Plain) → Action → Type 0
MayAct logs (Harvest object word) = MayHarvest logs object word
MayAct logs action = Unit {0}

abbrev pub from_option : {X : Type 0} → Option X → List X
from_option None = []
from_option (Some x) = x ∷ []
