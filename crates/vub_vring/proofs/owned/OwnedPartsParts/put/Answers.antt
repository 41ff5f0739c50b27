use Rattle.vub_vring.specs.Store.{shared_of}
use Rattle.vub_vring.proofs.Holding.{put_row, put_sound}
use Rattle.vub_vring.proofs.owned.OwnedPartsParts.put.Goals as goal

pub returns-clause-row : goal.returns-clause-row
returns-clause-row g c =
    put_row (shared_of c.args.self.now.store.now c.args.self.now.service.now) c.put_at.new.rings.items c.put_at.new.memory.guest c.put_at.new.memory.logs c.put_at.new.host.table c.args.entry.now c.args.reply.now c.args.self.now.store.now.host.plan.faults c.put_at.new.host.plan.faults c.put_at.result c.put_at.ensures.row c.put_at.ensures.logs c.put_at.ensures.table c.put_at.ensures.rings c.put_at.ensures.memory

pub returns-clause-sound : goal.returns-clause-sound
returns-clause-sound g c never =
    put_sound (shared_of c.args.self.now.store.now c.args.self.now.service.now) c.put_at.new.rings.items c.put_at.new.memory.guest c.put_at.new.memory.logs c.put_at.new.host.table c.args.entry.now c.args.reply.now c.put_at.result c.put_at.ensures.row c.put_at.ensures.logs (c.put_at.ensures.sound never) c.put_at.ensures.rings c.put_at.ensures.memory
