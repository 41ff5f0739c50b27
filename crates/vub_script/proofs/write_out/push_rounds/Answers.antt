use Rattle.std.proofs.Common.{arith}
use Rattle.vub_script.proofs.Texts.{one_round}
use Rattle.vub_script.proofs.write_out.push_rounds.Goals as goal

pub loop-preserved : goal.loop-preserved
loop-preserved c = one_round _ _ _ _ _ c.args.rounds (omega arith) c.in_ok-extend_from_slice.ensures.items c.loop.invariant
