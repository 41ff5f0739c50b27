use Rattle.std.proofs.Common.{arith, refl}
use Rattle.vub_mem.proofs.places.covers_from.Goals as goal
use Rattle.vub_mem.proofs.Ranges.{covers_more, covers_end, covers_all, covers_none}
use Rattle.vub_mem.proofs.Halving.{stands_next}

pub returns-in-None-clause-value : goal.returns-in-None-clause-value
returns-in-None-clause-value c = covers_none _ _ _ _ _ c.loop-left.invariant.covers c.loop-left-test.true c.in-None.ensures.none

pub returns-then-left-here-clause-value : goal.returns-then-left-here-clause-value
returns-then-left-here-clause-value c = covers_end _ _ _ _ _ _ c.loop-left.invariant.covers c.in-Some.ensures.found c.if-left-here.true

pub loop-left-preserved : goal.loop-left-preserved
loop-left-preserved c = record {
  covers = covers_more _ _ _ _ _ _ _ c.loop-left.invariant.covers c.in-Some.ensures.found refl c.if-left-here.false;
  stands = stands_next _ _ _ _ c.requires.bounded c.requires.apart c.in-Some.ensures.place (omega (arith, c.in-Some.ensures.found.low, c.in-Some.ensures.found.high));
}

pub returns-clause-value : goal.returns-clause-value
returns-clause-value c = covers_all _ _ _ _ _ c.loop-left.invariant.covers c.loop-left-test.false
