use Rattle.std.proofs.Common.{arith}
use Rattle.vub_mem.proofs.places.byte.Goals as goal
use Rattle.vub_mem.proofs.Ranges.{backed, byte_found, byte_none}

pub overflow_add-place : goal.overflow_add-place
overflow_add-place c = omega (arith, c.in-Some.ensures.found)

pub bounds-bytes-place : goal.bounds-bytes-place
bounds-bytes-place c = rw c.bytes-bytes.ensures (backed _ _ _ _ c.requires.backed c.in-Some.ensures.found)

pub returns-in-Some : goal.returns-in-Some
returns-in-Some c = byte_found _ _ _ _ _ c.in-Some.ensures.found c.bytes-bytes.ensures

pub returns-in-None : goal.returns-in-None
returns-in-None c = byte_none _ _ _ c.in-None.ensures.none
