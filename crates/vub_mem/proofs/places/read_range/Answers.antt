use Rattle.std.proofs.Common.{arith}
use Rattle.vub_mem.proofs.places.read_range.Goals as goal
use Rattle.vub_mem.proofs.Chunks.{read_none, read_more, read_all, read_covered}

pub loop-left-init : goal.loop-left-init
loop-left-init c = record { read = read_none _ _ _ _ c.new-bytes.ensures.items; stands = λ some. c.stand-on.ensures }

pub chunk_on-chunk-requires-clause-covered : goal.chunk_on-chunk-requires-clause-covered
chunk_on-chunk-requires-clause-covered c = read_covered _ _ _ _ _ c.requires.covered c.loop-left.invariant.read.split c.loop-left.invariant.read.past c.loop-left-test.true

pub loop-left-preserved : goal.loop-left-preserved
loop-left-preserved c = record {
  read = read_more _ _ _ _ _ _ _ _ c.loop-left.invariant.read c.chunk_on-chunk.ensures.bytes c.chunk_on-chunk.ensures.fits c.in_ok-extend_from_slice.ensures.items;
  stands = λ some. c.chunk_on-chunk.ensures.next (omega arith);
}

pub returns : goal.returns
returns c = read_all _ _ _ _ _ _ c.loop-left.invariant.read c.loop-left-test.false
