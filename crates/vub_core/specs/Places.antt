-- Where a ring's words are written, as the machine reads it off a ring before a step.
use Rattle.std.specs.Prelude.{◌≡◌, ◌%◌, ◌&&◌, true, false, List, [], ◌∷◌, slice_index_or}
use Rattle.vub_queue.specs.Layout.{at_of}
use Rattle.vub_queue.specs.Ring.{Ring}
use Rattle.vub_model.specs.declared.phase.Phase.{Phase}
use Rattle.vub_model.specs.declared.phase.Phase.TheVariants.{Serving, Served}
use Rattle.vub_model.specs.RingRecord.{Vring, closed_ring, has_addresses}
use Rattle.vub_model.specs.Work.{may_take}
use Rattle.vub_core.specs.declared.footprint.Footprint.{Footprint}
use Rattle.vub_core.specs.declared.footprint.Footprint.TheVariants.{Nothing, Use, Event}
use Rattle.vub_core.specs.declared.footprint.UsePlace.{UsePlace}
use Rattle.vub_core.specs.declared.footprint.EventPlace.{EventPlace}

-- the slot of the next used element
pub record IsUsePlace (r : Ring) (place : UsePlace) : Type 0 where
  pub used : place.used ≡ (at_of r).used
  pub slot : place.slot ≡ r.next_used % r.size

-- the end of the used ring
pub record IsEventPlace (r : Ring) (place : EventPlace) : Type 0 where
  pub used : place.used ≡ (at_of r).used
  pub size : place.size ≡ r.size

-- what a take that finds nothing may write
pub record IsEventFootprint (r : Vring) (f : Footprint) : Type 0 where
  pub some :
      (may_take r && r.queue.event_idx) ≡ true → (place : EventPlace) × (f ≡ Event place) × IsEventPlace r.queue place
  pub none : (may_take r && r.queue.event_idx) ≡ false → f ≡ Nothing

-- what the next step of a worker in this phase may write
abbrev pub IsFootprint : List Vring → Phase → Footprint → Type 0
IsFootprint rings (Served e reply queues) f =
    has_addresses (slice_index_or rings e.queue closed_ring) ≡ true →
    (place : UsePlace) × (f ≡ Use place) × IsUsePlace (slice_index_or rings e.queue closed_ring).queue place
IsFootprint rings (Serving []) f = f ≡ Nothing
IsFootprint rings (Serving (queue ∷ rest)) f = IsEventFootprint (slice_index_or rings queue closed_ring) f
IsFootprint rings phase f = f ≡ Nothing
