-- A ring that is cut goes on.
use Rattle.std.specs.Prelude.{◌≡◌, ℕ, ◌+◌, ◌<◌, ◌^◌, ◌%◌, ◌⊎◌, true, List, [], length, Ok}
use Rattle.vub_mem.specs.Laws.{IsIn}
use Rattle.vub_queue.specs.Ring.{Ring}
use Rattle.vub_queue.specs.declared.chain.Chain.{Chain}
use Rattle.vub_inflight.specs.Bytes.{record_of}
use Rattle.vub_inflight.specs.Machine.{World, Entry, Call, Runs, IsLike, IsOnce, open_in, entry_heads, numbered}
use Rattle.vub_inflight.specs.Recover.{index_covered, index_in, recovered}
use Rattle.vub_inflight.specs.Steps.{MayPublish, new_state}
use Rattle.vub_inflight.specs.declared.resumed.Resumed.{Resumed}

-- A beginning by `new`: over a queue whose numbers are the used index in memory, of which the word is covered.
pub record IsFresh (w : World) (q : Ring) : Type 0 where
  pub covered : index_covered w.guest q ≡ true
  pub index : index_in w.guest q ≡ q.next_used
  pub equal : q.next_avail ≡ q.next_used
  -- as in each queue
  pub some : 0 < q.size
  pub small : q.size < 2 ^ 16
  pub word : q.next_used < 2 ^ 16
  pub state : w.state ≡ new_state q
  pub taken : w.taken ≡ []
  pub published : w.published ≡ []

-- A beginning by `recover`, from any bytes that it accepts. The entries that are to be served again count as taken.
pub record IsResumed (w : World) (q : Ring) : Type 0 where
  pub bytes : List ℕ
  pub resumed : Resumed
  pub is : recovered bytes q w.guest ≡ Ok resumed
  -- as in each queue, and as of each record whose bytes are octets
  pub small : q.size < 2 ^ 16
  pub word : resumed.ring.used < 2 ^ 16
  pub next : resumed.ring.next < 2 ^ 64
  pub state : w.state ≡ resumed.ring
  pub taken : w.taken ≡ numbered 0 resumed.again
  pub published : w.published ≡ []

abbrev pub Begins : World → Type 0
Begins w = (q : Ring) × (IsFresh w q ⊎ IsResumed w q)

-- an entry with this head is open
abbrev pub HasOpen : World → ℕ → Type 0
HasOpen w head = (e : Entry) × IsIn e (open_in w) × (e.head ≡ head)

-- What holds where a ring that began in w is cut in v and recovered over the queue q.
pub record GoesOn (w v : World) (q : Ring) : Type 0 where
  -- it goes on
  pub resumed : Resumed
  pub is : recovered (record_of v.state) q v.guest ≡ Ok resumed
  -- it serves again exactly the entries that were taken and not published, in the order of taking
  pub again : resumed.again ≡ entry_heads (open_in v)
  -- its next entry is the first that was not taken: it lies as many beyond those used at the beginning as were taken
  pub next : resumed.ring.ring.next_avail ≡ (w.state.ring.next_used + length v.taken) % 2 ^ 16
  -- that is the entry which the ring would have taken without the cut
  pub uncut : resumed.ring.ring.next_avail ≡ v.state.ring.next_avail
  -- no entry is published twice
  pub once : IsOnce v.published
  -- whatever may be published is the reply to an open entry
  pub found : (c : Chain) (reply : List ℕ) → MayPublish v.state c reply → HasOpen v c.head

-- After any list of steps, cuts among them, a ring goes on.
abbrev pub CutRingGoesOn : Type 0
CutRingGoesOn =
    (w v : World) (calls : List Call) (q : Ring) → Begins w → Runs w calls v → IsLike q v.state.ring → GoesOn w v q
