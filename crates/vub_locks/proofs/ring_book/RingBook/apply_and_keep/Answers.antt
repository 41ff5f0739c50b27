use Rattle.std.proofs.Common.{◌≡◌, List, ◌∷◌, [], ◌++◌}
use Rattle.vub_locks.proofs.Booking.{done_keeps}
use Rattle.vub_locks.proofs.ring_book.RingBook.apply_and_keep.Goals as goal

pub invariant_of-self : goal.invariant_of-self
invariant_of-self c =
    let book = c.self.inside in
    (c.self.invariant.0, done_keeps book.opening.value book.ops.items c.push_reserved.new.self.items book.state c.args.op c.apply-said.result c.apply-said.new.self c.apply-said.ensures.said c.apply-said.ensures.ring c.in-Done.is c.push_reserved.ensures.items c.self.invariant.1)
