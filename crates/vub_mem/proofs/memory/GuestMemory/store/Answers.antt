use Rattle.std.proofs.Common.{rules, length, ◌+◌, ◌≤◌}
use Rattle.vub_mem.specs.Place.{content_of}
use Rattle.vub_mem.proofs.memory.GuestMemory.store.Goals as goal
use Rattle.vub_mem.proofs.Contents.{sound_store}

pub invariant_of-self : goal.invariant_of-self
invariant_of-self g c =
    let fits : c.args.offset + length c.args.bytes.now ≤ length (content_of c.self.inside.contents c.args.object) = search rules in
    record { guest = sound_store _ _ _ _ _ _ fits c.self.invariant.guest c.store.ensures; logged = c.self.invariant.logged }
