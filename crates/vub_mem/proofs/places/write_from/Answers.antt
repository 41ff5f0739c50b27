use Rattle.std.proofs.Common.{arith, ap, ◌+◌, ◌-◌, ◌≤◌, length, length-drop}
use Rattle.vub_mem.specs.Place.{content_of}
use Rattle.vub_mem.proofs.places.write_from.Goals as goal
use Rattle.vub_mem.proofs.Writes.{write_more, write_all, write_here, fits_in}
use Rattle.vub_mem.proofs.Halving.{next_after}

pub unreachable-requires : goal.unreachable-requires
unreachable-requires c = write_here _ _ _ _ _ _ _ _ c.is_empty.ensures c.loop-rest-test.true c.loop-rest.invariant.written c.requires.covered c.in-None.ensures.none

pub store-requires : goal.store-requires
store-requires c =
    let inside : c.in-Some.region.now.offset + (c.loop-rest.at - c.in-Some.region.now.start) + c.min-here.result ≤ length (content_of c.loop-rest.contents c.in-Some.region.now.object) = fits_in _ _ _ _ _ c.loop-rest.invariant.written.sound c.in-Some.ensures.found (omega (arith, c.min-here.ensures)) in
    omega (arith, c.split_at.ensures.front_len)

pub loop-rest-preserved : goal.loop-rest-preserved
loop-rest-preserved c = record {
  written = write_more _ _ _ _ _ _ _ _ _ _ _ _ c.loop-rest.invariant.written c.in-Some.ensures.found (omega (arith, c.min-here.ensures)) (omega (arith, c.min-here.ensures)) c.split_at.ensures.front c.split_at.ensures.back c.split_at.ensures.front_len c.store.ensures;
  stands = λ more. next_after _ _ _ _ _ _ c.requires.sound.bounded c.requires.sound.apart c.in-Some.ensures.found c.in-Some.ensures.place c.min-here.ensures (omega (arith, ap length c.split_at.ensures.back, length-drop c.min-here.result c.loop-rest.rest.now));
}

pub returns-clause-written : goal.returns-clause-written
returns-clause-written c = write_all _ _ _ _ _ _ _ _ c.is_empty.ensures c.loop-rest-test.false c.loop-rest.invariant.written
