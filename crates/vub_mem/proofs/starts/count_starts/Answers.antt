use Rattle.std.proofs.Common.{arith}
use Rattle.vub_mem.proofs.starts.count_starts.Goals as goal
use Rattle.vub_mem.proofs.Halving.{halves_low, halves_high, steps_more}

pub loop-low-preserved-then-at-addr : goal.loop-low-preserved-then-at-addr
loop-low-preserved-then-at-addr g c = record {
  halves = halves_low _ _ _ _ _ _ c.requires c.loop-low.invariant.halves (omega (arith, c.loop-low-test.true)) (omega arith) c.at.ensures.start c.if-at-addr.true;
  steps = steps_more _ _ _ _ _ _ c.loop-low.invariant.steps c.at.ensures.steps (omega (arith, c.loop-low-test.true)) (omega (arith, c.loop-low-test.true));
}

pub loop-low-preserved : goal.loop-low-preserved
loop-low-preserved g c = record {
  halves = halves_high _ _ _ _ _ _ c.requires c.loop-low.invariant.halves (omega (arith, c.loop-low-test.true)) (omega arith) c.at.ensures.start c.if-at-addr.false;
  steps = steps_more _ _ _ _ _ _ c.loop-low.invariant.steps c.at.ensures.steps (omega (arith, c.loop-low-test.true)) (omega (arith, c.loop-low-test.true));
}
