-- Where a head has no chain: the first test that fails on the way from the head.
use Rattle.std.specs.Prelude.{◌≡◌, ℕ, ◌+◌, ◌<◌, ◌≤◌, true, not, nat_le, nat_lt, if◌then◌else◌, List, [], ◌∷◌, length}
use Rattle.std.specs.Prelude.{Option, Some, None}
use Rattle.vub_mem.specs.Memory.{Guest}
use Rattle.vub_mem.specs.Place.{covers}
use Rattle.vub_queue.specs.Chain.{IsChain, Stands, descriptor_at, has_next, is_indirect, total}
use Rattle.vub_queue.specs.Layout.{Table, slot_of}
use Rattle.vub_queue.specs.declared.damage.Damage.{Damage}
use Rattle.vub_queue.specs.declared.damage.Damage.TheVariants.{RingOutside, IndexAhead, TooLong, BadNumber, Indirect}
use Rattle.vub_queue.specs.declared.damage.Damage.TheVariants.{TooBig, SegmentOutside}
use Rattle.vub_queue.specs.declared.descriptor.Descriptor.{Descriptor}
use Rattle.vub_queue.specs.declared.walk.Walk.{Walk}
use Rattle.vub_queue.specs.declared.walk.Walk.TheVariants.{Whole, Failed}

-- Each descriptor has NEXT and names the one that follows. The first has number i, and the last names number j.
abbrev pub Leads : Guest → Table → ℕ → List Descriptor → ℕ → Type 0
Leads g t i [] j = i ≡ j
Leads g t i (d ∷ ds) j = Stands g t i d × (has_next d ≡ true) × Leads g t d.next ds j

-- the descriptors from the head on that pass every test, before number i
pub record Passes (g : Guest) (t : Table) (head : ℕ) (ds : List Descriptor) (i : ℕ) : Type 0 where
  pub leads : Leads g t head ds i
  pub short : length ds ≤ t.size
  pub small : total ds ≤ 4294967295

-- the first test that number i fails, after n descriptors whose lengths add to sum
unfoldable pub fault_of : Guest → Table → ℕ → ℕ → ℕ → Option Damage
fault_of g t n sum i =
    let d = descriptor_at g (slot_of t i) in
    if nat_le t.size n then Some TooLong else
    if nat_le t.size i then Some BadNumber else
    if not (covers g.regions (slot_of t i) 16) then Some RingOutside else
    if is_indirect d then Some Indirect else
    if nat_lt 4294967295 (sum + d.len) then Some TooBig else
    if not (covers g.regions d.addr d.len) then Some SegmentOutside else
    None

-- the descriptors before pass, and the next one fails this test first
abbrev pub FailsFirst : Guest → Table → ℕ → Damage → Type 0
FailsFirst g t head damage =
    (ds : List Descriptor) × (i : ℕ) × Passes g t head ds i × (fault_of g t (length ds) (total ds) i ≡ Some damage)

-- the descriptor with this number passes every test, after n descriptors whose lengths add to sum
pub record Fits (g : Guest) (t : Table) (n sum i : ℕ) (d : Descriptor) : Type 0 where
  pub stands : Stands g t i d
  pub short : n < t.size
  pub small : sum + d.len ≤ 4294967295

-- a walk from the head gives its chain, or the first test that fails
abbrev pub Walks : Guest → Table → ℕ → Walk → Type 0
Walks g t head (Whole ds) = IsChain g t head ds.items
Walks g t head (Failed damage) = FailsFirst g t head damage

-- How many descriptors of a table of this size are read where this test fails after n that pass: those, and the one
-- that fails where the test is of what it says. A chain that is too long has as many before as the table.
abbrev pub reads_at : ℕ → ℕ → Damage → ℕ
reads_at size n TooLong = size
reads_at size n BadNumber = n
reads_at size n RingOutside = n
reads_at size n IndexAhead = n
reads_at size n Indirect = n + 1
reads_at size n TooBig = n + 1
reads_at size n SegmentOutside = n + 1

-- a walk that fails costs a step for each descriptor that it read
abbrev pub CostsFailure : Guest → Table → ℕ → Damage → ℕ → ℕ → Type 0
CostsFailure g t head damage old new =
    (ds : List Descriptor) × (i : ℕ) × Passes g t head ds i × (fault_of g t (length ds) (total ds) i ≡ Some damage) ×
    (new ≡ old + reads_at t.size (length ds) damage)

-- a whole walk costs a step for each descriptor
abbrev pub CostsAsWalk : Guest → Table → ℕ → ℕ → ℕ → Walk → Type 0
CostsAsWalk g t head old new (Whole ds) = new ≡ old + length ds.items
CostsAsWalk g t head old new (Failed damage) = CostsFailure g t head damage old new
