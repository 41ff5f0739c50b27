use Rattle.std.proofs.Common.{rules, ◌≡◌, true}
use Rattle.vub_mem.specs.Place.{covers}
use Rattle.vub_mem.proofs.memory.GuestMemory.read_covered.Goals as goal
use Rattle.vub_mem.proofs.Ranges.{covered_ends}

pub read_range-requires-clause-bound : goal.read_range-requires-clause-bound
read_range-requires-clause-bound g c =
    let covered : covers c.self.inside.regions.items c.args.addr c.args.len ≡ true = search rules in
    covered_ends _ _ _ c.self.invariant.guest.bounded covered c.ranges.addr.fits
