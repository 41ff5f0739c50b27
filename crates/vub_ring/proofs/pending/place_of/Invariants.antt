use Rattle.std.proofs.Common.{◌≡◌, ◌+◌, drop}
use Rattle.vub_ring.specs.Pending.{place_in}
use Rattle.vub_ring.proofs.pending.place_of.Given as goal

-- the place in the whole list is that in the rest, behind the numbers that were passed
abbrev pub invariant-loop-place : goal.invariant-loop-place
invariant-loop-place l = place_in l.numbers.items l.number ≡ l.place + place_in (drop l.place l.numbers.items) l.number
