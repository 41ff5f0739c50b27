-- What the machine records of a worker's step.
use Rattle.std.specs.Prelude.{◌≡◌, ◌<◌, vec_len, vec_capacity, Bool, true, false, List, [], ◌∷◌, Option, Some, None, Ok}
use Rattle.std.specs.Global.{Vec}
use Rattle.vub_mem.specs.declared.region.Region.{Region}
use Rattle.vub_mem.specs.Place.{covers}
use Rattle.vub_proto.specs.declared.used.Used.{Used}
use Rattle.vub_queue.specs.Layout.{avail_event_at}
use Rattle.vub_queue.specs.Put.{put_answer}
use Rattle.vub_queue.specs.Ring.{Ring}
use Rattle.vub_model.specs.declared.play.Play.{Play}
use Rattle.vub_model.specs.declared.play.Play.TheVariants as play
use Rattle.vub_model.specs.declared.phase.Phase.{Phase}
use Rattle.vub_model.specs.declared.phase.Phase.TheVariants.{Idle, Serving}
use Rattle.vub_model.specs.World.{used_of}
use Rattle.vub_model.specs.Written.{spots_of, put_spots, with_spots}
use Rattle.vub_loop.specs.declared.finished.Finished.{Finished}
use Rattle.vub_core.specs.declared.footprint.Footprint.{Footprint}
use Rattle.vub_core.specs.declared.footprint.Footprint.TheVariants.{Nothing, Use, Event}
use Rattle.vub_core.specs.Places.{IsUsePlace, IsEventPlace}

-- one more can be appended without taking memory
abbrev pub HasRoom : {A : Type 0} → Vec A → Type 0
HasRoom list = vec_len list < vec_capacity list

-- the use of the entry that a step finished
abbrev pub uses_in : Option Finished → List Used
uses_in None = []
uses_in (Some f) = used_of f.entry f.reply ∷ []

-- a Take that ended in this phase found nothing
abbrev pub left_none : Play → Phase → Bool
left_none play.Take Idle = true
left_none play.Take (Serving queues) = true
left_none l phase = false

-- The flags after a step: what the use of the finished entry wrote is flagged, and avail_event where a take found
-- nothing and its word is covered. Any other step wrote nothing.
abbrev pub IsWritten : List Region → Footprint → Play → Phase → Option Finished → List (List Bool) → List (List Bool)
    → Type 0
IsWritten rs (Use place) l now (Some f) old new =
    (r : Ring) (wanted answer : Bool) → IsUsePlace r place → put_answer rs r f.entry.chain f.reply wanted ≡ Ok answer →
    new ≡ with_spots old (put_spots rs r f.entry.chain f.reply)
IsWritten rs (Use place) l now None old new = new ≡ old
IsWritten rs (Event place) l now finished old new =
    (left_none l now ≡ false → new ≡ old)
    × (left_none l now ≡ true → (r : Ring) → IsEventPlace r place → covers rs (avail_event_at r) 2 ≡ true →
    new ≡ with_spots old (spots_of rs (avail_event_at r) 2))
IsWritten rs Nothing l now finished old new = new ≡ old
