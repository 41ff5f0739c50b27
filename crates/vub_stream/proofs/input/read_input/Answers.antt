use Rattle.std.proofs.Common.{◌≡◌, [], ◌++◌, length-append, arith}
use Rattle.vub_stream.proofs.Streams.{read_end, consumes_trans}
use Rattle.vub_stream.proofs.input.read_input.Goals as goal

pub returns-then-is_empty-clause-whole : goal.returns-then-is_empty-clause-whole
returns-then-is_empty-clause-whole g c =
    let none : c.in_ok-piece.piece ≡ [] = c.is_empty.ensures.0 c.if-is_empty.true in
    rw c.from_vec.ensures (read_end _ _ _ c.loop-alloc.invariant.0 (c.in_ok-piece.ensures.bytes.1 none), omega (arith, c.loop-alloc-test.true), c.in_ok-piece.ensures.end none)

pub returns-then-is_err-clause-takes : goal.returns-then-is_err-clause-takes
returns-then-is_err-clause-takes g c = (
  c.loop-alloc.found.items ++ c.in_ok-piece.piece,
  consumes_trans _ _ _ _ _ c.loop-alloc.invariant.0 c.in_ok-piece.ensures.bytes.0,
  omega (arith, length-append c.loop-alloc.found.items c.in_ok-piece.piece, c.in_ok-piece.ensures.bound, c.min-most.ensures, c.loop-alloc-test.true),
)
