-- The logs of dirty pages in a run: each page that a worker writes in a region with a log stands in the log at the end,
-- or was handed out by a harvest since; and no page is marked for nothing.
use Rattle.std.specs.Prelude.{◌≡◌, ◌⊎◌, ℕ, ◌/◌, ◌%◌, if◌then◌else◌, List, [], ◌∷◌, ◌++◌, length, take, drop}
use Rattle.std.specs.Int.{bit_at}
use Rattle.vub_mem.specs.declared.region.Region.{Region}
use Rattle.vub_mem.specs.Laws.{IsIn, MeetsPage}
use Rattle.vub_mem.specs.Marks.{Mark}
use Rattle.vub_queue.specs.Layout.{used_element_at, used_index_at, avail_event_at}
use Rattle.vub_queue.specs.Ring.{Ring}
use Rattle.vub_queue.specs.declared.chain.Chain.{Chain}
use Rattle.vub_queue.specs.declared.segment.Segment.{Segment}
use Rattle.vub_queue.specs.declared.took.Took.{Took}
use Rattle.vub_queue.specs.declared.took.Took.TheVariants as took
use Rattle.vub_model.specs.declared.party.Party.{Party}
use Rattle.vub_model.specs.declared.party.Party.TheVariants as party
use Rattle.vub_model.specs.declared.phase.Phase.{Phase}
use Rattle.vub_model.specs.declared.phase.Phase.TheVariants.{Serving, Served}
use Rattle.vub_model.specs.declared.play.Play.{Play}
use Rattle.vub_model.specs.declared.play.Play.TheVariants as play
use Rattle.vub_model.specs.declared.records.Harvested.{Harvested}
use Rattle.vub_model.specs.Logs.{bit_in}
use Rattle.vub_model.specs.RunOf.{party_of, next, EachTurn}
use Rattle.vub_model.specs.Service.{Meaning}
use Rattle.vub_model.specs.Shared.{Shared, ring_at}
use Rattle.vub_model.specs.Work.{may_take, looked, put_said}
use Rattle.vub_model.specs.World.{World, phase_at, if_used}
use Rattle.vub_model.specs.Written.{Spot, spots_of}

-- What a step writes, by guest addresses

-- `len` guest addresses from `start` on
pub record Range : Type 0 where
  pub start : ℕ
  pub len : ℕ

-- the part of each segment that a reply fills
abbrev pub reply_ranges : List Segment → List ℕ → List Range
reply_ranges [] reply = []
reply_ranges (s ∷ ss) reply =
    record { start = s.addr; len = length (take s.len reply) } ∷ reply_ranges ss (drop s.len reply)

-- a use writes the reply, the used element and the used index (virtio 1.2, section 2.7.8)
abbrev pub put_ranges : Ring → Chain → List ℕ → List Range
put_ranges r c reply =
    reply_ranges c.segments reply
    ++ (record { start = used_element_at r; len = 8 } ∷ record { start = used_index_at r; len = 2 } ∷ [])

-- a take writes avail_event where nothing is left and notifications go by index (virtio 1.2, section 2.7.10)
abbrev pub take_ranges : Ring → Took → List Range
take_ranges r took.None = if r.event_idx then record { start = avail_event_at r; len = 2 } ∷ [] else []
take_ranges r t = []

-- the ranges that a step which begins in this phase writes
abbrev pub ranges_by : {V : Type 0} → Shared V → Play → Phase → List Range
ranges_by h play.Take (Serving (queue ∷ rest)) =
    if may_take (ring_at h queue) then take_ranges (ring_at h queue).queue (looked h queue) else []
ranges_by h play.Put (Served e reply queues) =
    if_used (put_said h e reply) (put_ranges (ring_at h e.queue).queue e.chain reply)
ranges_by h l phase = []

-- the bytes of ranges, one after the other
abbrev pub spots_for : List Region → List Range → List Spot
spots_for rs [] = []
spots_for rs (x ∷ xs) = spots_of rs x.start x.len ++ spots_for rs xs

-- a range that the worker writes meets this page, in a region that has this log then
abbrev pub IsDirty : {V : Type 0} → World V → Party → Play → Mark → Type 0
IsDirty w (party.Worker k) l m =
    (x : Range) × IsIn x (ranges_by w.shared l (phase_at w.phases k))
    × MeetsPage w.shared.guest.regions x.start x.len m
IsDirty w p l m = ⊥

-- Marks and harvests

-- the page is marked in its log
abbrev pub Stands : {V : Type 0} → World V → Mark → Type 0
Stands w m = bit_in w.shared.logs m ≡ 1

-- this harvest is one of the page's word
abbrev pub IsOfWord : Mark → Harvested → Type 0
IsOfWord m h = (h.object ≡ m.object) × (h.word ≡ m.page / 32)

-- one of these harvests handed the page out
abbrev pub IsHandedOut : Mark → List Harvested → Type 0
IsHandedOut m [] = ⊥
IsHandedOut m (h ∷ hs) = (IsOfWord m h × (bit_at h.bits (m.page % 32) ≡ 1)) ⊎ IsHandedOut m hs

-- none of these harvests is one of the page's word
abbrev pub IsUnharvested : Mark → List Harvested → Type 0
IsUnharvested m [] = Unit {0}
IsUnharvested m (h ∷ hs) = (IsOfWord m h → ⊥) × IsUnharvested m hs

-- the harvests from the one world to the other
abbrev pub harvests_since : {V : Type 0} → World V → World V → List Harvested
harvests_since w closing = drop (length w.harvests) closing.harvests

-- Runs

-- each page that this turn writes is marked at the end, or was handed out since
abbrev pub KeepsPages : {V : Type 0} → World V → World V → Party → Play → World V → Type 0
KeepsPages closing old p l new =
    (m : Mark) → IsDirty old p l m → Stands closing m ⊎ IsHandedOut m (harvests_since old closing)

-- this turn wrote the page, and its word was not harvested since
abbrev pub MarksSince : {V : Type 0} → World V → Mark → World V → Party → Play → World V → Type 0
MarksSince closing m old p l new = IsDirty old p l m × IsUnharvested m (harvests_since old closing)

-- some turn of a run is so: of the world before it, the party, the play and the world after it
abbrev pub SomeTurn :
    {V : Type 0} → (World V → Party → Play → World V → Type 0) → Meaning V → List ℕ → List Play → World V → Type 0
SomeTurn P m [] plays w = ⊥
SomeTurn P m (turn ∷ turns) [] w = ⊥
SomeTurn P m (turn ∷ turns) (l ∷ plays) w =
    P w (party_of turn) l (next m w (party_of turn) l) ⊎ SomeTurn P m turns plays (next m w (party_of turn) l)

-- Every 4096-byte page that a worker wrote in a region with a log is marked in it at the end, or was handed out by a
-- harvest at or after that step; and each page that is marked at the end was written by some worker since its word was
-- harvested last.
pub record KeepsLogs {V : Type 0} (m : Meaning V) (schedule : List ℕ) (plays : List Play)
    (opening closing : World V) : Type 0 where
  pub kept : EachTurn (KeepsPages closing) m schedule plays opening
  pub only : (page : Mark) → Stands closing page → SomeTurn (MarksSince closing page) m schedule plays opening
