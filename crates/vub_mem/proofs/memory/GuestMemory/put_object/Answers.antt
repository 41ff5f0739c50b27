use Rattle.vub_mem.proofs.memory.GuestMemory.put_object.Goals as goal
use Rattle.vub_mem.proofs.Contents.{sound_put}

pub invariant_of-self : goal.invariant_of-self
invariant_of-self g c = record { guest = sound_put c.put.result _ _ _ _ c.self.invariant.guest c.put.ensures.ok c.put.ensures.err; logged = c.self.invariant.logged }
