use Rattle.std.proofs.Common.{arith, sym, ◌∙◌}
use Rattle.vub_mem.proofs.places.region_on.Goals as goal
use Rattle.vub_mem.proofs.places.region_on.Goals.{else-place-regions-via-then-place-regions+else-holds, else-place-regions-via-else-place-regions}
use Rattle.vub_mem.proofs.Halving.{no_region, region_is, region_found, region_nowhere}

pub returns-then-holds-clause-found : goal.returns-then-holds-clause-found
returns-then-holds-clause-found c = region_found _ _ _ _ c.requires.bounded c.requires.stands (region_is _ _ _ c.if-place-regions.true) (sym c.holds.ensures ∙ c.if-holds.true)

pub returns-then-holds-clause-place : goal.returns-then-holds-clause-place
returns-then-holds-clause-place c = region_is _ _ _ c.if-place-regions.true

pub returns-else-place-regions-clause-none : goal.returns-else-place-regions-clause-none
returns-else-place-regions-clause-none c =
    elim c.else-place-regions.branch [
      | else-place-regions-via-then-place-regions+else-holds w ↦ region_nowhere _ _ _ _ c.requires.stands (λ h. sym w.holds.ensures ∙ w.if-holds.false)
      | else-place-regions-via-else-place-regions w ↦ region_nowhere _ _ _ no_region c.requires.stands (λ h. absurd (omega (arith, w.if-place-regions.false)))
    ]
