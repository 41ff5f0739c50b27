-- The small machine: a ring with its record, guest memory, and the entries that were taken and published so far.
use Rattle.std.specs.Prelude.{◌≡◌, ◌≢◌, ℕ, ◌+◌, Bool, not, ◌==◌, List, [], ◌∷◌, ◌++◌, length, map, Result, Ok, Err}
use Rattle.std.specs.List.{filter, list_any, AllByRecursion}
use Rattle.vub_mem.specs.Laws.{IsIn}
use Rattle.vub_mem.specs.Memory.{Guest}
use Rattle.vub_mem.specs.ReadBack.{IsPlacedApart}
use Rattle.vub_mem.specs.Sound.{IsSound}
use Rattle.vub_queue.specs.Layout.{used_index_at}
use Rattle.vub_queue.specs.Ring.{Ring}
use Rattle.vub_queue.specs.declared.chain.Chain.{Chain}
use Rattle.vub_queue.specs.declared.putting.PutFault.{PutFault}
use Rattle.vub_inflight.specs.Bytes.{record_of}
use Rattle.vub_inflight.specs.Recover.{index_in, recovered}
use Rattle.vub_inflight.specs.State.{State}
use Rattle.vub_inflight.specs.Steps.{MayTake, Takes, MayMark, state_marked, MayPublish, Publishes, state_cleared, state_settled}
use Rattle.vub_inflight.specs.declared.next_entry.NextEntry.{NextEntry}
use Rattle.vub_inflight.specs.declared.next_entry.NextEntry.TheVariants as entry
use Rattle.vub_inflight.specs.declared.resumed.Resumed.{Resumed}
use Rattle.vub_inflight.specs.declared.stage.Stage.TheVariants.{Published, Cleared}

-- an entry that was taken: which take that was, counted from 0, and its head
pub record Entry : Type 0 where
  pub number : ℕ
  pub head : ℕ

pub record World : Type 0 where
  pub state : State
  pub guest : Guest
  -- the entries in the order of taking
  pub taken : List Entry
  -- the numbers of those that were published, in that order
  pub published : List ℕ

-- the entries that were taken and not published, in the order of taking
abbrev pub open_of : List Entry → List ℕ → List Entry
open_of taken published = filter (λ e. not (list_any (λ n. n == e.number) published)) taken

abbrev pub open_in : World → List Entry
open_in w = open_of w.taken w.published

abbrev pub entry_heads : List Entry → List ℕ
entry_heads es = map (λ e. e.head) es

-- entries with these heads, numbered from n on
abbrev pub numbered : ℕ → List ℕ → List Entry
numbered n [] = []
numbered n (h ∷ hs) = record { number = n; head = h } ∷ numbered (n + 1) hs

-- A step of the machine: a call with its answer, a store of the guest between two calls, or a cut after which the ring
-- goes on over this queue. A use at once is four steps.
pub data Call : Type 0 where
  takes : NextEntry → Call
  marks : ℕ → Call
  publishes : Chain → List ℕ → Result Bool PutFault → Call
  clears : ℕ → Call
  settles : Call
  stores : Call
  restarts : Ring → Call

-- what taking adds to the entries taken
abbrev pub more_taken : NextEntry → ℕ → List Entry
more_taken (entry.Entry c) n = record { number = n; head = c.head } ∷ []
more_taken entry.None n = []
more_taken (entry.Damaged d) n = []
more_taken (entry.Doubled h) n = []

-- what publishing adds to the entries published: an open one with this head
abbrev pub MorePublished : World → Chain → Result Bool PutFault → List ℕ → Type 0
MorePublished w c (Ok wanted) published =
    (e : Entry) × IsIn e (open_in w) × (e.head ≡ c.head) × (published ≡ w.published ++ e.number ∷ [])
MorePublished w c (Err fault) published = published ≡ w.published

-- the table of regions stays, and the used index word reads as before
abbrev pub KeepsIndex : World → World → Type 0
KeepsIndex w v =
    (v.guest.regions ≡ w.guest.regions) × (index_in v.guest w.state.ring ≡ index_in w.guest w.state.ring)

-- memory and the lists stay
abbrev pub KeepsRest : World → World → Type 0
KeepsRest w v = (v.guest ≡ w.guest) × (v.taken ≡ w.taken) × (v.published ≡ w.published)

-- What a publishing needs of memory, so that its index is read back: it is sound, as each guest memory is, and the two
-- bytes of the used index word lie at two places.
pub record HasWord (g : Guest) (r : Ring) : Type 0 where
  pub sound : IsSound g
  pub apart : IsPlacedApart g.regions (used_index_at r) 2

-- a queue that is set up as the other: its size and addresses are the same
pub record IsLike (p q : Ring) : Type 0 where
  pub size : p.size ≡ q.size
  pub addresses : p.addresses ≡ q.addresses

-- One step, made under its condition. Only publishing changes the used index word.
abbrev pub Step : World → Call → World → Type 0
Step w (takes a) v =
    MayTake w.state × Takes w.state w.guest a v.state v.guest × (v.taken ≡ w.taken ++ more_taken a (length w.taken)) ×
    (v.published ≡ w.published) × KeepsIndex w v
Step w (marks h) v = MayMark w.state h × (v.state ≡ state_marked w.state h) × KeepsRest w v
Step w (publishes c reply a) v =
    MayPublish w.state c reply × Publishes w.state w.guest c reply a v.state v.guest × (v.taken ≡ w.taken) ×
    MorePublished w c a v.published × HasWord w.guest w.state.ring
Step w (clears h) v = (w.state.stage ≡ Published h) × (v.state ≡ state_cleared w.state h) × KeepsRest w v
Step w settles v = (w.state.stage ≡ Cleared) × (v.state ≡ state_settled w.state) × KeepsRest w v
Step w stores v = (v.state ≡ w.state) × (v.taken ≡ w.taken) × (v.published ≡ w.published) × KeepsIndex w v
Step w (restarts q) v =
    IsLike q w.state.ring × ((r : Resumed) × (recovered (record_of w.state) q w.guest ≡ Ok r) × (v.state ≡ r.ring)) ×
    KeepsRest w v

-- steps one after the other
abbrev pub Runs : World → List Call → World → Type 0
Runs w [] v = v ≡ w
Runs w (c ∷ cs) v = (u : World) × Step w c u × Runs u cs v

-- no number comes twice
abbrev pub IsOnce : List ℕ → Type 0
IsOnce [] = Unit {0}
IsOnce (n ∷ ns) = AllByRecursion (λ k. k ≢ n) ns × IsOnce ns
