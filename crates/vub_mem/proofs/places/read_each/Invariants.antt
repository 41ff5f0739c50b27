use Rattle.std.proofs.Common.{◌≡◌, ◌<◌, ◌+◌, get_or, ℕ}
use Rattle.vub_mem.specs.Place.{byte_at}
use Rattle.vub_mem.proofs.places.read_each.Given as goal

abbrev pub invariant-loop-i : goal.invariant-loop-i
invariant-loop-i l = (k : ℕ) → k < l.i → get_or l.out k 0 ≡ byte_at (record { regions = l.regions; contents = l.contents }) (l.addr + k)
