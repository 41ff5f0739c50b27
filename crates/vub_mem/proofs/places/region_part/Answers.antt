use Rattle.std.proofs.Common.{arith, ◌≤◌, ◌+◌, length}
use Rattle.vub_mem.specs.Memory.{Guest}
use Rattle.vub_mem.proofs.places.region_part.Goals as goal
use Rattle.vub_mem.proofs.Chunks.{chunk_is, region_backed}

pub split_at-requires : goal.split_at-requires
split_at-requires c =
    let g : Guest = record { regions = c.args.regions.now; contents = c.args.contents.now } in
    let inside : c.args.region.now.offset + c.args.region.now.len ≤ length c.bytes-content.result.now = region_backed g _ _ _ c.requires.sound.backed c.requires.found c.bytes-content.ensures in
    omega (arith, c.requires.found)

pub split_at-requires-2 : goal.split_at-requires-2
split_at-requires-2 c =
    let g : Guest = record { regions = c.args.regions.now; contents = c.args.contents.now } in
    let inside : c.args.region.now.offset + c.args.region.now.len ≤ length c.bytes-content.result.now = region_backed g _ _ _ c.requires.sound.backed c.requires.found c.bytes-content.ensures in
    omega (arith, c.requires.found)

pub returns-clause-bytes : goal.returns-clause-bytes
returns-clause-bytes c =
    let g : Guest = record { regions = c.args.regions.now; contents = c.args.contents.now } in
    chunk_is g _ _ _ _ _ _ c.requires.sound.apart c.requires.found c.requires.fits c.bytes-content.ensures (region_backed g _ _ _ c.requires.sound.backed c.requires.found c.bytes-content.ensures) c.split_at.ensures.back c.split_at-2.ensures.front
