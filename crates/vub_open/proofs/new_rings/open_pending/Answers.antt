use Rattle.std.proofs.Common.{[], ◌∷◌, ◌++◌, ap, ◌∙◌}
use Rattle.vub_open.proofs.NewLists.{constant_next}
use Rattle.vub_open.proofs.new_rings.open_pending.Goals as goal

pub loop-mask-preserved : goal.loop-mask-preserved
loop-mask-preserved c = constant_next [] _ _ [] _ _ c.loop-mask-test.true c.loop-mask.invariant (c.in_ok-push.ensures.items ∙ ap (λ x. c.loop-mask.sets.items ++ x ∷ []) c.new.ensures)
