-- Schedule independence: what a queue uses is what serving it alone uses, whatever the schedule and whatever else is
-- done, while nothing disturbs the queue.
use Rattle.std.specs.Prelude.{◌≡◌, ℕ, zero, suc, Bool, true, false, ◌==◌, if◌then◌else◌, List, [], ◌∷◌, ◌++◌, length}
use Rattle.std.specs.Prelude.{map, None, Result, Ok, Err}
use Rattle.std.specs.Int.{w16, w32, to_le_bytes}
use Rattle.std.specs.List.{AllByRecursion, flat_map, range_with_len}
use Rattle.vub_mem.specs.declared.region.Region.{Region}
use Rattle.vub_mem.specs.Memory as memory
use Rattle.vub_mem.specs.Table.{unlogged}
use Rattle.vub_proto.specs.declared.used.Used.{Used}
use Rattle.vub_queue.specs.Chain.{is_writable}
use Rattle.vub_queue.specs.EntryNumber.{after}
use Rattle.vub_queue.specs.Function.{took_of, walk_of}
use Rattle.vub_queue.specs.Layout.{Table, slot_of, table_of, avail_index_at, avail_slot_at}
use Rattle.vub_queue.specs.Put.{put_answer, put_guest}
use Rattle.vub_queue.specs.Ring.{Ring}
use Rattle.vub_queue.specs.Take.{head_of}
use Rattle.vub_queue.specs.declared.chain.Chain.{Chain}
use Rattle.vub_queue.specs.declared.damage.Damage.{Damage}
use Rattle.vub_queue.specs.declared.descriptor.Descriptor.{Descriptor}
use Rattle.vub_queue.specs.declared.head.Head.{Head}
use Rattle.vub_queue.specs.declared.head.Head.TheVariants.{At}
use Rattle.vub_queue.specs.declared.took.Took.{Took}
use Rattle.vub_queue.specs.declared.took.Took.TheVariants as took
use Rattle.vub_model.specs.declared.entry.Entry.{Entry}
use Rattle.vub_model.specs.declared.flight.Flight.TheVariants as flight
use Rattle.vub_model.specs.declared.party.Party.{Party}
use Rattle.vub_model.specs.declared.party.Party.TheVariants as party
use Rattle.vub_model.specs.declared.phase.Phase.{Phase}
use Rattle.vub_model.specs.declared.phase.Phase.TheVariants.{Serving, Served}
use Rattle.vub_model.specs.declared.play.Play.{Play}
use Rattle.vub_model.specs.declared.play.Play.TheVariants as play
use Rattle.vub_model.specs.declared.ring_op.RingOp.TheVariants as op
use Rattle.vub_model.specs.declared.setup.Guest.{Guest}
use Rattle.vub_model.specs.declared.setup.Guest.TheVariants.{Store, Signal, Harvest}
use Rattle.vub_model.specs.Headline.{IsSpot, asked, uses_of}
use Rattle.vub_model.specs.RingRecord.{Vring, changed}
use Rattle.vub_model.specs.RunOf.{party_of, next, EachTurn, IsAtRest}
use Rattle.vub_model.specs.Running.{index_word, IsRunning}
use Rattle.vub_model.specs.Service.{Meaning}
use Rattle.vub_model.specs.Shared.{Shared, ring_at}
use Rattle.vub_model.specs.Work.{put_said, may_take, entry_of}
use Rattle.vub_model.specs.World.{World, phase_at, used_of, if_used, written_by}
use Rattle.vub_model.specs.Written.{Spot, spots_of, put_spots}
use Rattle.vub_laws.specs.EntriesLeft.{entries_left}

-- Serving a queue alone

-- A use, and the bytes that its put wrote, each with its place.
pub record Placing : Type 0 where
  pub used : Used
  pub spots : List Spot
  pub bytes : List ℕ

-- the reply, the used element and the used index (virtio 1.2, section 2.7.8)
abbrev pub placing : List Region → Ring → Entry → List ℕ → Placing
placing rs r e reply =
    record {
      used = used_of e reply;
      spots = put_spots rs r e.chain reply;
      bytes =
          reply ++ (to_le_bytes w32 e.chain.head ++ to_le_bytes w32 (length reply))
          ++ to_le_bytes w16 (after r.next_used);
    }

-- what serving an entry makes, if there is one
abbrev pub if_entry : Took → (Chain → List Placing) → List Placing
if_entry (took.Entry c) serve = serve c
if_entry took.None serve = []
if_entry (took.Damaged d) serve = []

-- At most so many entries are taken, one after the other, each answered with the reply of this value of the service,
-- and put. Damage ends it, and a put that is refused.
abbrev pub alone : {V : Type 0} → Meaning V → V → ℕ → ℕ → memory.Guest → Vring → List Placing
alone m v queue zero g r = []
alone m v queue (suc n) g r =
    if_entry (took_of g r.queue) (λ c.
    if_used (put_answer g.regions r.queue c (m.reply_of v c.request c.room) true)
    (placing g.regions r.queue (entry_of queue r c) (m.reply_of v c.request c.room)
    ∷ alone m v queue n (put_guest g r.queue c (m.reply_of v c.request c.room)) (changed (changed r op.Taken) op.Put)))

-- the entries that are left, from this memory and ring
abbrev pub served_alone : {V : Type 0} → Meaning V → V → ℕ → Shared V → List Placing
served_alone m v queue h = alone m v queue (entries_left h.guest (ring_at h queue)) h.guest (ring_at h queue)

-- What a run used of a queue

abbrev pub placed_in : {V : Type 0} → Shared V → ℕ → Play → Phase → List Placing
placed_in h queue play.Put (Served e reply queues) =
    if e.queue == queue
    then if_used (put_said h e reply) (placing h.guest.regions (ring_at h queue).queue e reply ∷ [])
    else []
placed_in h queue l phase = []

abbrev pub placed_at : {V : Type 0} → World V → ℕ → Party → Play → List Placing
placed_at w queue (party.Worker k) l = placed_in w.shared queue l (phase_at w.phases k)
placed_at w queue p l = []

abbrev pub placings : {V : Type 0} → Meaning V → ℕ → List ℕ → List Play → World V → List Placing
placings m queue [] plays w = []
placings m queue (turn ∷ turns) [] w = []
placings m queue (turn ∷ turns) (l ∷ plays) w =
    placed_at w queue (party_of turn) l ++ placings m queue turns plays (next m w (party_of turn) l)

-- The bytes that a take of an entry reads: the index word, the slot, the descriptors of the chain, and the segments
-- that the driver wrote (virtio 1.2, sections 2.7.5 and 2.7.6)

abbrev pub table_spots : List Region → Table → ℕ → List Descriptor → List Spot
table_spots rs t i [] = []
table_spots rs t i (d ∷ ds) = spots_of rs (slot_of t i) 16 ++ table_spots rs t d.next ds

abbrev pub request_spots : List Region → List Descriptor → List Spot
request_spots rs ds = flat_map (λ d. if is_writable d then [] else spots_of rs d.addr d.len) ds

abbrev pub walk_reads : List Region → Table → ℕ → Result (List Descriptor) Damage → List Spot
walk_reads rs t head (Ok ds) = table_spots rs t head ds ++ request_spots rs ds
walk_reads rs t head (Err d) = []

abbrev pub head_reads : memory.Guest → Ring → Head → List Spot
head_reads g r (At head) =
    spots_of g.regions (avail_slot_at r) 2 ++ walk_reads g.regions (table_of r) head (walk_of g (table_of r) head)
head_reads g r h = []

abbrev pub take_reads : memory.Guest → Ring → List Spot
take_reads g r = spots_of g.regions (avail_index_at r) 2 ++ head_reads g r (head_of g r)

-- Whose bytes a turn reads and writes

abbrev pub read_by : {V : Type 0} → Shared V → Play → Phase → List Spot
read_by h play.Take (Serving (queue ∷ rest)) =
    if may_take (ring_at h queue) then take_reads h.guest (ring_at h queue).queue else []
read_by h l phase = []

-- whether the step is a take or a put of the queue
abbrev pub is_of : Play → Phase → ℕ → Bool
is_of play.Take (Serving (q ∷ rest)) queue = q == queue
is_of play.Put (Served e reply queues) queue = e.queue == queue
is_of l phase queue = false

-- what a turn reads, if it is a take of the queue
abbrev pub read_at : {V : Type 0} → World V → ℕ → Party → Play → List Spot
read_at w queue (party.Worker k) l =
    if is_of l (phase_at w.phases k) queue then read_by w.shared l (phase_at w.phases k) else []
read_at w queue p l = []

abbrev pub store_spots : ℕ → ℕ → ℕ → List Spot
store_spots object offset n = map (λ k. record { object = object; offset = k }) (range_with_len offset n)

-- what the guest's next action stores
abbrev pub stored_spots : List Guest → List Spot
stored_spots [] = []
stored_spots (Store object offset bytes ∷ actions) = store_spots object offset (length bytes)
stored_spots (Signal object ∷ actions) = []
stored_spots (Harvest object word ∷ actions) = []

-- what a turn writes, if it is no take and no put of the queue: control writes no byte
abbrev pub wrote_at : {V : Type 0} → World V → ℕ → Party → Play → List Spot
wrote_at w queue party.Guest play.Guest = stored_spots w.guest
wrote_at w queue (party.Worker k) l =
    if is_of l (phase_at w.phases k) queue then [] else written_by w.shared l (phase_at w.phases k)
wrote_at w queue p l = []

-- the bytes that a queue's takes read in a run
abbrev pub taken_bytes : {V : Type 0} → Meaning V → ℕ → List ℕ → List Play → World V → List Spot
taken_bytes m queue [] plays w = []
taken_bytes m queue (turn ∷ turns) [] w = []
taken_bytes m queue (turn ∷ turns) (l ∷ plays) w =
    read_at w queue (party_of turn) l ++ taken_bytes m queue turns plays (next m w (party_of turn) l)

-- the bytes that the guest and the takes and puts of other queues wrote in a run
abbrev pub others_bytes : {V : Type 0} → Meaning V → ℕ → List ℕ → List Play → World V → List Spot
others_bytes m queue [] plays w = []
others_bytes m queue (turn ∷ turns) [] w = []
others_bytes m queue (turn ∷ turns) (l ∷ plays) w =
    wrote_at w queue (party_of turn) l ++ others_bytes m queue turns plays (next m w (party_of turn) l)

-- Undisturbed queues

-- a ring without its events, its flags and its flight: size, addresses, EVENT_IDX, and how far it has come
abbrev pub serving_of : Vring → Vring
serving_of r =
    record r {
      queue = record r.queue { ready = false };
      kick = None;
      call = None;
      err = None;
      enabled = false;
      flight = flight.None;
    }

-- the same regions, but for their logs
abbrev pub SameTable : List Region → List Region → Type 0
SameTable rs qs = map unlogged rs ≡ map unlogged qs

-- control leaves the queue's size, base, addresses and EVENT_IDX, and the table of regions but for their logs; it may
-- stop the queue, change its events and flags, and give the regions a log
abbrev pub SparesQueue : {V : Type 0} → ℕ → World V → Party → Play → World V → Type 0
SparesQueue queue old party.Control l new =
    (serving_of (ring_at new.shared queue) ≡ serving_of (ring_at old.shared queue))
    × SameTable new.shared.guest.regions old.shared.guest.regions
SparesQueue queue old p l new = Unit {0}

-- the available index word of the queue stays
abbrev pub KeepsWord : {V : Type 0} → ℕ → World V → Party → Play → World V → Type 0
KeepsWord queue old p l new = index_word new.shared queue ≡ index_word old.shared queue

-- In this run from this world the replies to the queue are those of this value of the service, no take of the queue
-- reads a byte that the guest or a step for another queue wrote, control leaves what serving the queue depends on, and
-- no turn changes its available index word.
pub record IsUndisturbed {V : Type 0} (m : Meaning V) (v : V) (queue : ℕ) (turns : List ℕ) (plays : List Play)
    (w : World V) : Type 0 where
  pub replies : AllByRecursion (λ a. a.queue ≡ queue → a.reply ≡ m.reply_of v a.request a.room) (asked m turns plays w)
  pub apart :
      (object offset : ℕ) → IsSpot (others_bytes m queue turns plays w) object offset →
      IsSpot (taken_bytes m queue turns plays w) object offset → ⊥
  pub spared : EachTurn (SparesQueue queue) m turns plays w
  pub word : EachTurn (KeepsWord queue) m turns plays w

-- What the queue used in the run, with the bytes that its puts wrote and their places, is a front of serving it alone
-- from the first world, and stands in the uses. Where the run ends at rest and the queue is calm and running, it is all
-- of that.
pub record IsAsAlone {V : Type 0} (m : Meaning V) (v : V) (queue : ℕ) (turns : List ℕ) (plays : List Play)
    (w z : World V) (calm : ℕ → Bool) : Type 0 where
  pub rest : List Placing
  pub front : served_alone m v queue w.shared ≡ placings m queue turns plays w ++ rest
  pub uses :
      uses_of queue z.uses
      ≡ uses_of queue w.uses ++ map (λ (p : Placing). p.used) (placings m queue turns plays w)
  pub all : IsAtRest z → IsRunning z queue → calm queue ≡ true → rest ≡ []
