use Rattle.std.proofs.Common.{◌<◌, length, rules}
use Rattle.vub_vring.proofs.Places.{put_missing}
use Rattle.vub_vring.proofs.store.put_at.Goals as goal

pub returns-in-None-clause-row : goal.returns-in-None-clause-row
returns-in-None-clause-row g c =
    let apart : c.args.entry.now.queue < length c.args.rings.now.items → ⊥ = search rules in
    put_missing c.args.rings.now.items c.args.entry.now.queue c.args.entry.now.chain c.args.reply.now c.args.memory.now.guest apart
