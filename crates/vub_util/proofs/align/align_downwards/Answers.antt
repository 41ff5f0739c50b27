use Rattle.vub_util.proofs.Aligned.{power_of_test, power_pos, mask_is_mod, floor_is_below}
use Rattle.vub_util.proofs.align.align_downwards.Goals as goal

pub returns : goal.returns
returns c =
    rw (mask_is_mod c.args.alignment c.args.addr (power_of_test c.args.alignment c.ranges.alignment.fits c.requires))
    (floor_is_below c.args.alignment c.args.addr (power_pos c.args.alignment (power_of_test c.args.alignment c.ranges.alignment.fits c.requires)))
