-- The book of a ring: its opening, the ops that were done to it since, and the ring that they lead to.
use Rattle.std.specs.Prelude.{◌≡◌, ℕ, List, [], ◌∷◌}
use Rattle.vub_model.specs.RingRecord.{Vring, ring_after}
use Rattle.vub_model.specs.declared.ring_op.RingOp.{RingOp}
use Rattle.vub_model.specs.declared.ring_op.RingSaid.{RingSaid}
use Rattle.vub_model.specs.declared.ring_op.RingSaid.TheVariants.{Done, Waits, Base}

pub record Book : Type 0 where
  -- the ring with which the book begins
  pub opening : Vring
  -- the ops that were done to it since
  pub ops : List RingOp
  -- the ring as it is
  pub state : Vring
  -- for how many more ops there is room
  pub spare : ℕ

-- the replay of ops from a ring: each is applied in turn
abbrev pub replayed : Vring → List RingOp → Vring
replayed r [] = r
replayed r (o ∷ os) = replayed (ring_after r o) os

-- an op is kept where the ring said that it was done; one that has to wait, and a question for the base, are not
abbrev pub kept_of : RingSaid → RingOp → List RingOp
kept_of Done o = o ∷ []
kept_of Waits o = []
kept_of (Base n) o = []

-- of a ring with which a book may begin nothing was taken yet, and it was given no base
pub record IsFresh (r : Vring) : Type 0 where
  pub epoch : r.epoch ≡ 0
  pub taken : r.taken ≡ 0
  pub base : r.queue.next_avail ≡ r.base
