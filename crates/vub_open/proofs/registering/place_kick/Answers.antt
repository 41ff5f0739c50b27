use Rattle.vub_open.specs.Opened.{unserved}
use Rattle.vub_open.proofs.Placing.{kick_placed}
use Rattle.vub_open.proofs.HostTakes.{signal-kept}
use Rattle.vub_open.proofs.registering.place_kick.Goals as goal

pub ring_bell-requires-clause-taken : goal.ring_bell-requires-clause-taken
ring_bell-requires-clause-taken c = signal-kept c.args.store.now.host.table c.add_member.new.host.table _ _ c.in_ok-add_member.ensures.table c.requires.bell

pub returns-clause-shared : goal.returns-clause-shared
returns-clause-shared c = kick_placed c.args.constants.now c.args.count (unserved c.args.store.now) c.args.kick c.args.place c.add_member.new.host.table c.ring_bell.new.host.table c.insert.new.pending.items c.requires.worker c.in_ok-add_member.ensures.table c.in_ok-insert.ensures c.ring_bell.ensures.table
