-- The head of an entry that is taken is a descriptor of the table.
use Rattle.std.proofs.Common.{ℕ, ◌<◌, List, [], ◌∷◌}
use Rattle.vub_queue.specs.Chain.{Links}
use Rattle.vub_queue.specs.Layout.{Table, table_of}
use Rattle.vub_queue.specs.declared.chain.Chain.{Chain}
use Rattle.vub_queue.specs.declared.descriptor.Descriptor.{Descriptor}
use Rattle.vub_mem.specs.Memory.{Guest}
use Rattle.vub_queue.specs.Ring.{Ring}
use Rattle.vub_queue.specs.Take.{Taken}
use Rattle.vub_queue.specs.declared.took.Took.{Took}
use Rattle.vub_queue.specs.declared.took.Took.TheVariants as took
use Rattle.vub_inflight.specs.Steps.{HeadIsBelow}

-- the head of a chain is a descriptor of the table
head_below : (g : Guest) (t : Table) (i : ℕ) (ds : List Descriptor) → Links g t i ds → i < t.size
head_below g t i [] h = absurd h
head_below g t i (d ∷ []) h = h.0.below
head_below g t i (d ∷ e ∷ ds) h = h.0.below

pub entry_below : (g : Guest) (r : Ring) (c : Chain) → Taken g r (took.Entry c) → c.head < r.size
entry_below g r c h = head_below g (table_of r) c.head h.0 h.2.links

pub took_below : (g : Guest) (r : Ring) (t : Took) → Taken g r t → HeadIsBelow r.size t
took_below g r (took.Entry c) h = entry_below g r c h
took_below g r took.None h = tt
took_below g r (took.Damaged d) h = tt
