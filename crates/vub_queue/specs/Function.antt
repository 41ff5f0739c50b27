-- Looking at the next entry as a function of the memory and the ring: the walk that the relation does not name.
use Rattle.std.specs.Prelude.{ℕ, zero, suc, if◌then◌else◌, List, [], ◌∷◌, ◌++◌, length, Option, Some, None, Result, Ok}
use Rattle.std.specs.Prelude.{Err, not, ◌&&◌}
use Rattle.vub_mem.specs.Memory.{Guest}
use Rattle.vub_queue.specs.Chain.{chain_of, descriptor_at, has_next, total}
use Rattle.vub_queue.specs.Layout.{Table, slot_of, table_of}
use Rattle.vub_queue.specs.Ring.{Ring}
use Rattle.vub_queue.specs.Take.{event_covers, head_of}
use Rattle.vub_queue.specs.Walk.{fault_of}
use Rattle.vub_queue.specs.declared.damage.Damage.{Damage}
use Rattle.vub_queue.specs.declared.damage.Damage.TheVariants.{RingOutside, TooLong}
use Rattle.vub_queue.specs.declared.descriptor.Descriptor.{Descriptor}
use Rattle.vub_queue.specs.declared.head.Head.{Head}
use Rattle.vub_queue.specs.declared.head.Head.TheVariants.{Empty, At, Broken}
use Rattle.vub_queue.specs.declared.took.Took.{Took}
use Rattle.vub_queue.specs.declared.took.Took.TheVariants as took

-- the end of a walk at a fault, or what comes next
abbrev pub unless_fault : Option Damage → Result (List Descriptor) Damage → Result (List Descriptor) Damage
unless_fault None next = next
unless_fault (Some e) next = Err e

-- The descriptors from number i on, behind those that were read. At most the first number are looked at, which is one
-- more than a table has.
abbrev pub walk_from : Guest → Table → ℕ → List Descriptor → ℕ → Result (List Descriptor) Damage
walk_from g t zero ds i = Err TooLong
walk_from g t (suc k) ds i =
    let d = descriptor_at g (slot_of t i) in
    unless_fault (fault_of g t (length ds) (total ds) i)
    (if has_next d then walk_from g t k (ds ++ d ∷ []) d.next else Ok (ds ++ d ∷ []))

unfoldable pub walk_of : Guest → Table → ℕ → Result (List Descriptor) Damage
walk_of g t head = walk_from g t (suc t.size) [] head

abbrev pub took_walk : Guest → ℕ → Result (List Descriptor) Damage → Took
took_walk g head (Ok ds) = took.Entry (chain_of g head ds)
took_walk g head (Err e) = took.Damaged e

abbrev pub took_head : Guest → Ring → Head → Took
took_head g r Empty = took.None
took_head g r (Broken e) = took.Damaged e
took_head g r (At head) = took_walk g head (walk_of g (table_of r) head)

-- what looking at the next entry gives
unfoldable pub look_of : Guest → Ring → Took
look_of g r = took_head g r (head_of g r)

-- an empty ring whose avail_event can't be written is damaged
abbrev pub finish_of : Guest → Ring → Took → Took
finish_of g r (took.Entry c) = took.Entry c
finish_of g r took.None = if r.event_idx && not (event_covers g r) then took.Damaged RingOutside else took.None
finish_of g r (took.Damaged d) = took.Damaged d

-- what a take answers
unfoldable pub took_of : Guest → Ring → Took
took_of g r = finish_of g r (look_of g r)
