-- What taking the next entry of a ring answers, does and costs.
use Rattle.std.specs.Prelude.{◌≡◌, ℕ, ◌+◌, ◌⊎◌, Bool, true, false, not, nat_lt, ◌==◌, if◌then◌else◌, List, [], length}
use Rattle.std.specs.Prelude.{sum_by}
use Rattle.std.specs.Int.{w16, to_le_bytes}
use Rattle.vub_mem.specs.Memory.{Guest}
use Rattle.vub_mem.specs.Marks.{Mark, marks_of}
use Rattle.vub_mem.specs.Place.{covers, number_at, write_at}
use Rattle.vub_mem.specs.declared.region.Region.{Region}
use Rattle.vub_queue.specs.Chain.{IsChain, chain_of}
use Rattle.vub_queue.specs.EntryNumber.{after, index_covers, left_of}
use Rattle.vub_queue.specs.Layout.{avail_event_at, avail_slot_at, table_of}
use Rattle.vub_queue.specs.Ring.{Ring}
use Rattle.vub_queue.specs.Walk.{CostsFailure, FailsFirst}
use Rattle.vub_queue.specs.declared.chain.Chain.{Chain}
use Rattle.vub_queue.specs.declared.damage.Damage.{Damage}
use Rattle.vub_queue.specs.declared.damage.Damage.TheVariants.{RingOutside, IndexAhead}
use Rattle.vub_queue.specs.declared.descriptor.Descriptor.{Descriptor}
use Rattle.vub_queue.specs.declared.head.Head.{Head}
use Rattle.vub_queue.specs.declared.head.Head.TheVariants.{Empty, At, Broken}
use Rattle.vub_queue.specs.declared.took.Took.{Took}
use Rattle.vub_queue.specs.declared.took.Took.TheVariants as took

-- What the available ring says comes next: its tests in order.
unfoldable pub head_of : Guest → Ring → Head
head_of g r =
    if not (index_covers g r) then Broken RingOutside else
    if nat_lt r.size (left_of g r) then Broken IndexAhead else
    if left_of g r == 0 then Empty else
    if not (covers g.regions (avail_slot_at r) 2) then Broken RingOutside else
    At (number_at w16 g (avail_slot_at r))

-- the entry is what the chain of the next head makes
abbrev pub IsEntry : Guest → Ring → Chain → Type 0
IsEntry g r c =
    (ds : List Descriptor) × (head_of g r ≡ At c.head) × IsChain g (table_of r) c.head ds × (c ≡ chain_of g c.head ds)

-- the index word is covered and equals the number of the next entry
abbrev pub IsEmpty : Guest → Ring → Type 0
IsEmpty g r = head_of g r ≡ Empty

-- this is the first test that fails, of the available ring or of a descriptor
abbrev pub IsDamaged : Guest → Ring → Damage → Type 0
IsDamaged g r d = (head_of g r ≡ Broken d) ⊎ ((head : ℕ) × (head_of g r ≡ At head) × FailsFirst g (table_of r) head d)

-- what looking at the next entry gives
abbrev pub Looks : Guest → Ring → Took → Type 0
Looks g r (took.Entry c) = IsEntry g r c
Looks g r took.None = IsEmpty g r
Looks g r (took.Damaged d) = IsDamaged g r d

-- whether the word avail_event lies in guest memory
abbrev pub event_covers : Guest → Ring → Bool
event_covers g r = covers g.regions (avail_event_at r) 2

-- What a take answers. With EVENT_IDX a ring where nothing is left is damaged if avail_event is not covered.
abbrev pub Taken : Guest → Ring → Took → Type 0
Taken g r (took.Entry c) = IsEntry g r c
Taken g r took.None = IsEmpty g r × ((r.event_idx ≡ false) ⊎ (event_covers g r ≡ true))
Taken g r (took.Damaged d) =
    IsDamaged g r d ⊎ (IsEmpty g r × (r.event_idx ≡ true) × (event_covers g r ≡ false) × (d ≡ RingOutside))

-- The ring after a take: an entry raises the number of the next one.
abbrev pub ring_taken : Ring → Took → Ring
ring_taken r (took.Entry c) = record r { next_avail = after r.next_avail }
ring_taken r took.None = r
ring_taken r (took.Damaged d) = r

-- The memory after a take: where nothing is left and notifications go by index, that number is written to avail_event
-- (virtio 1.2, 2.7.10).
abbrev pub guest_taken : Guest → Ring → Took → Guest
guest_taken g r (took.Entry c) = g
guest_taken g r took.None = if r.event_idx then write_at g (avail_event_at r) (to_le_bytes w16 r.next_avail) else g
guest_taken g r (took.Damaged d) = g

-- the pages that this marks
abbrev pub marks_taken : List Region → Ring → Took → List Mark
marks_taken rs r (took.Entry c) = []
marks_taken rs r took.None = if r.event_idx then marks_of rs (avail_event_at r) 2 else []
marks_taken rs r (took.Damaged d) = []

-- Damage costs a step for each descriptor that was read: none where the available ring fails a test, or where nothing
-- is left and avail_event can't be written.
abbrev pub CostsDamage : Guest → Ring → Damage → ℕ → ℕ → Type 0
CostsDamage g r d old new =
    (((head_of g r ≡ Broken d) ⊎ IsEmpty g r) × (new ≡ old))
    ⊎ ((head : ℕ) × (head_of g r ≡ At head) × CostsFailure g (table_of r) head d old new)

-- An entry costs a step for each descriptor of its chain, an empty ring none, and damage one for each that was read.
abbrev pub Costs : Guest → Ring → ℕ → ℕ → Took → Type 0
Costs g r old new (took.Entry c) = (ds : List Descriptor) → IsChain g (table_of r) c.head ds → new ≡ old + length ds
Costs g r old new took.None = new ≡ old
Costs g r old new (took.Damaged d) = CostsDamage g r d old new

-- the room of an entry is what its segments hold
abbrev pub HasRoom : Took → Type 0
HasRoom (took.Entry c) = c.room ≡ sum_by (λ s. s.len) c.segments
HasRoom took.None = Unit {0}
HasRoom (took.Damaged d) = Unit {0}
