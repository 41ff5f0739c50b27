use Rattle.std.proofs.Common.{arith}
use Rattle.vub_stream.proofs.Streams.{wrote_more}
use Rattle.vub_stream.proofs.output.write_all.Goals as goal

pub loop-done-preserved : goal.loop-done-preserved
loop-done-preserved g c =
    (wrote_more _ _ _ _ _ _ c.loop-done.invariant.0 c.in_ok-count.ensures.bytes, omega (arith, c.loop-done.invariant.1, c.in_ok-count.ensures.cause.later), omega (arith, c.in_ok-count.ensures.bound))
