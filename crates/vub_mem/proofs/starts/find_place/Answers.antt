use Rattle.std.proofs.Common.{arith, sym, ◌∙◌}
use Rattle.vub_mem.proofs.starts.find_place.Goals as goal
use Rattle.vub_mem.proofs.starts.find_place.Goals.{else-place-regions-via-then-place-regions+else-holds, else-place-regions-via-else-place-regions}
use Rattle.vub_mem.proofs.Halving.{no_region, position_is, position_nowhere}

pub returns-then-holds-clause-place : goal.returns-then-holds-clause-place
returns-then-holds-clause-place g c = position_is _ _ _ _ c.stand_counted-place.ensures.stands c.if-place-regions.true (sym c.holds.ensures ∙ c.if-holds.true)

pub returns-else-place-regions-clause-place : goal.returns-else-place-regions-clause-place
returns-else-place-regions-clause-place g c =
    elim c.else-place-regions.branch [
      | else-place-regions-via-then-place-regions+else-holds w ↦ position_nowhere _ _ _ _ c.stand_counted-place.ensures.stands (λ h. sym w.holds.ensures ∙ w.if-holds.false)
      | else-place-regions-via-else-place-regions w ↦ position_nowhere _ _ _ no_region c.stand_counted-place.ensures.stands (λ h. absurd (omega (arith, w.if-place-regions.false)))
    ]
