use Rattle.vub_vring.specs.Store.{shared_of}
use Rattle.vub_vring.proofs.Holding.{table_ring_row}
use Rattle.vub_vring.proofs.owned.OwnedPartsParts.ring_table.Goals as goal

pub returns-clause-row : goal.returns-clause-row
returns-clause-row g c =
    table_ring_row (shared_of c.args.self.now.store.now c.args.self.now.service.now) c.table_at.new.rings.items c.table_at.new.memory.guest c.table_at.new.memory.logs c.args.queue c.args.op c.table_at.result c.table_at.ensures.row c.table_at.ensures.logs c.table_at.ensures.rings c.table_at.ensures.err
