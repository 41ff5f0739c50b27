-- Laws of taking and putting.
use Rattle.std.specs.Prelude.{◌≡◌, ℕ, ◌%◌, ◌^◌, ◌<◌, ◌↔◌, true, false, List, [], ◌∷◌, length, take, drop}
use Rattle.std.specs.Int.{is_power_of_two}
use Rattle.vub_mem.specs.Laws.{IsElsewhere, byte_of}
use Rattle.vub_mem.specs.Memory.{Guest}
use Rattle.vub_mem.specs.declared.region.Region.{Region}
use Rattle.vub_queue.specs.Chain.{IsChain}
use Rattle.vub_queue.specs.EntryNumber.{is_left}
use Rattle.vub_queue.specs.Function.{took_of}
use Rattle.vub_queue.specs.Layout.{Table, avail_event_at, used_element_at, used_index_at}
use Rattle.vub_queue.specs.Put.{put_guest}
use Rattle.vub_queue.specs.Ring.{Ring}
use Rattle.vub_queue.specs.Take.{IsEmpty, Taken, guest_taken}
use Rattle.vub_queue.specs.Walk.{FailsFirst}
use Rattle.vub_queue.specs.declared.chain.Chain.{Chain}
use Rattle.vub_queue.specs.declared.damage.Damage.{Damage}
use Rattle.vub_queue.specs.declared.descriptor.Descriptor.{Descriptor}
use Rattle.vub_queue.specs.declared.segment.Segment.{Segment}
use Rattle.vub_queue.specs.declared.took.Took.{Took}

-- Entry n stands in slot n modulo the size, though indexes have 16 bits.
abbrev pub EntryStandsInItsSlot : Type 0
EntryStandsInItsSlot = (n size : ℕ) → is_power_of_two size ≡ true → size < 2 ^ 16 → n % 2 ^ 16 % size ≡ n % size

-- The available ring is empty exactly where no entry is left.
abbrev pub EmptyWhereNoneIsLeft : Type 0
EmptyWhereNoneIsLeft = (g : Guest) (r : Ring) → IsEmpty g r ↔ (is_left g r ≡ false)

-- A head has one chain at most.
abbrev pub HeadHasOneChain : Type 0
HeadHasOneChain =
    (g : Guest) (t : Table) (head : ℕ) (ds es : List Descriptor) → IsChain g t head ds → IsChain g t head es → ds ≡ es

-- A head that has a chain fails no test.
abbrev pub ChainFailsNoTest : Type 0
ChainFailsNoTest =
    (g : Guest) (t : Table) (head : ℕ) (ds : List Descriptor) (d : Damage) → IsChain g t head ds →
    FailsFirst g t head d → ⊥

-- A take has one answer at most.
abbrev pub TakeHasOneAnswer : Type 0
TakeHasOneAnswer = (g : Guest) (r : Ring) (t u : Took) → Taken g r t → Taken g r u → t ≡ u

-- A take has an answer in every memory, and the function gives it.
abbrev pub TakeHasAnAnswer : Type 0
TakeHasAnAnswer = (g : Guest) (r : Ring) → Taken g r (took_of g r)

-- no address that the reply fills lies at this place of an object
abbrev pub IsOffReply : List Region → List Segment → List ℕ → ℕ → ℕ → Type 0
IsOffReply rs [] reply o i = Unit {0}
IsOffReply rs (s ∷ ss) reply o i =
    IsElsewhere rs s.addr (length (take s.len reply)) o i × IsOffReply rs ss (drop s.len reply) o i

-- A put changes the bytes that the reply fills, the used element and the index word, and no other. Bytes go by object
-- and place, since two addresses may show one byte.
abbrev pub PutChangesOnlyItsPlaces : Type 0
PutChangesOnlyItsPlaces =
    (g : Guest) (r : Ring) (c : Chain) (reply : List ℕ) (o i : ℕ) → IsOffReply g.regions c.segments reply o i →
    IsElsewhere g.regions (used_element_at r) 8 o i → IsElsewhere g.regions (used_index_at r) 2 o i →
    byte_of (put_guest g r c reply) o i ≡ byte_of g o i

-- A take changes no byte but those of avail_event, and none at all where notifications do not go by index.
abbrev pub TakeChangesOnlyAvailEvent : Type 0
TakeChangesOnlyAvailEvent =
    (g : Guest) (r : Ring) (t : Took) (o i : ℕ) → IsElsewhere g.regions (avail_event_at r) 2 o i →
    byte_of (guest_taken g r t) o i ≡ byte_of g o i

abbrev pub TakeChangesNothing : Type 0
TakeChangesNothing = (g : Guest) (r : Ring) (t : Took) → r.event_idx ≡ false → guest_taken g r t ≡ g
