-- What a step of a worker writes is told by bytes of contents and by guest addresses: both tell the same.
use Rattle.std.specs.Prelude.{◌≡◌}
use Rattle.vub_model.specs.declared.phase.Phase.{Phase}
use Rattle.vub_model.specs.declared.play.Play.{Play}
use Rattle.vub_model.specs.Logging.{ranges_by, spots_for}
use Rattle.vub_model.specs.Shared.{Shared}
use Rattle.vub_model.specs.World.{written_by}

-- the bytes that a step writes are those of the ranges whose pages it marks
abbrev pub StepsWriteTheirRanges : Type 0 → Type 0
StepsWriteTheirRanges V =
    (h : Shared V) (l : Play) (phase : Phase) → written_by h l phase ≡ spots_for h.guest.regions (ranges_by h l phase)
