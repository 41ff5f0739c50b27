use Rattle.vub_open.proofs.NewLists.{new_list}
use Rattle.vub_open.proofs.HostTakes.{made-longer, made-exit, bell-joins}
use Rattle.vub_open.proofs.new_host.open_list.Goals as goal

pub add_exit-requires-clause-list : goal.add_exit-requires-clause-list
add_exit-requires-clause-list c = made-longer c.args.host.now.table c.create_list.new.host.table c.in_ok-list.list c.in_ok-list.ensures.list c.in_ok-list.ensures.table

pub add_exit-requires-clause-there : goal.add_exit-requires-clause-there
add_exit-requires-clause-there c = made-exit c.args.host.now.table c.create_list.new.host.table c.args.opened.exit c.in_ok-list.ensures.table c.requires.exit

pub add_member-requires-clause-taken : goal.add_member-requires-clause-taken
add_member-requires-clause-taken c = bell-joins c.args.host.now.table c.create_list.new.host.table c.add_exit.new.host.table c.in_ok-list.list c.args.opened.bell c.args.token c.args.opened.exit c.in_ok-list.ensures.list c.in_ok-list.ensures.table c.in_ok-add_exit.ensures.table c.requires.bell c.requires.apart

pub returns-clause-table : goal.returns-clause-table
returns-clause-table c = new_list c.args.host.now.table c.create_list.new.host.table c.add_exit.new.host.table c.add_member.new.host.table c.in_ok-list.list c.args.opened.exit c.args.opened.bell c.args.token c.in_ok-list.ensures.list c.in_ok-list.ensures.table c.in_ok-add_exit.ensures.table c.in_ok-add_member.ensures.table
