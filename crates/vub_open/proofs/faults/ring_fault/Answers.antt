use Rattle.vub_open.proofs.Rings.{ring_fails, ring_passes, rings_pass}
use Rattle.vub_open.proofs.faults.ring_fault.Goals as goal

pub returns-then-not-is_sound : goal.returns-then-not-is_sound
returns-then-not-is_sound c = ring_fails _ _ _ _ _ _ c.loop-index-test.true c.loop-index.invariant c.if-not-is_sound.ensures

pub loop-index-preserved : goal.loop-index-preserved
loop-index-preserved c = ring_passes _ _ _ _ _ _ c.loop-index-test.true c.loop-index.invariant c.if-not-is_sound.ensures

pub returns : goal.returns
returns c = rings_pass _ _ _ _ _ c.loop-index-test.false c.loop-index.invariant
