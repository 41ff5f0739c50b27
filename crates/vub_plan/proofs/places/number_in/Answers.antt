use Rattle.std.proofs.Common.{arith, sym, ◌∙◌}
use Rattle.vub_plan.proofs.MaskBits.{number_there, number_missing}
use Rattle.vub_plan.proofs.places.number_in.Goals as goal
use Rattle.vub_plan.proofs.places.number_in.Goals.{then-has_bit, else-has_bit}

pub loop-other-preserved : goal.loop-other-preserved
loop-other-preserved c =
    elim c.if-has_bit.branch [
      | then-has_bit w ↦ (let more = number_there c.args.mask c.loop-other.other (sym c.has_bit.ensures ∙ w.if-has_bit.true) in (omega (arith, more, c.loop-other.invariant.0, w.number-is), omega (arith, c.loop-other.invariant.1, w.number-is)))
      | else-has_bit w ↦ (let more = number_missing c.args.mask c.loop-other.other (sym c.has_bit.ensures ∙ w.if-has_bit.false) in (omega (arith, more, c.loop-other.invariant.0, w.number-is), omega (arith, c.loop-other.invariant.1, w.number-is)))
    ]
