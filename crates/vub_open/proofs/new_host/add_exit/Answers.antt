use Rattle.vub_open.proofs.HostTakes.{first-taken}
use Rattle.vub_open.proofs.new_host.add_exit.Goals as goal

pub add_member-requires-clause-taken : goal.add_member-requires-clause-taken
add_member-requires-clause-taken c = let there = rw c.in-Some.is at c.requires.there in first-taken c.args.host.now.table c.args.list c.in-Some.object c.args.token c.requires.list there c.requires.none
