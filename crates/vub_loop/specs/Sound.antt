-- What holds of every phase: the entry in hand has the room of its segments, and the reply to it fits there.
use Rattle.std.specs.Prelude.{◌≡◌, ◌≤◌, length, sum_by}
use Rattle.vub_model.specs.declared.entry.Entry.{Entry}
use Rattle.vub_model.specs.declared.phase.Phase.{Phase}
use Rattle.vub_model.specs.declared.phase.Phase.TheVariants.{Taken, Served}

abbrev pub HasWholeRoom : Entry → Type 0
HasWholeRoom e = e.chain.room ≡ sum_by (λ s. s.len) e.chain.segments

abbrev pub IsSound : Phase → Type 0
IsSound (Taken e queues) = HasWholeRoom e
IsSound (Served e reply queues) = HasWholeRoom e × (length reply ≤ e.chain.room)
IsSound phase = Unit {0}
