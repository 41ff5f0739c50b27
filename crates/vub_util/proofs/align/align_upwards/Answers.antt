use Rattle.std.proofs.Common.{arith}
use Rattle.vub_util.proofs.Aligned.{power_of_test, power_pos, ceiling_is_above, none_above}
use Rattle.vub_util.proofs.align.align_upwards.Goals as goal

pub returns-in_err-raised : goal.returns-in_err-raised
returns-in_err-raised c =
    rw c.from_residual.ensures
    (none_above c.args.alignment c.args.addr (power_of_test c.args.alignment c.ranges.alignment.fits c.requires) c.ranges.alignment.fits (omega (arith, c.in_err-raised.ensures)))

pub returns : goal.returns
returns c =
    ceiling_is_above c.args.alignment c.args.addr c.align_downwards.result (power_pos c.args.alignment (power_of_test c.args.alignment c.ranges.alignment.fits c.requires))
    (rw c.in_ok-raised.ensures.1 at c.align_downwards.ensures)
