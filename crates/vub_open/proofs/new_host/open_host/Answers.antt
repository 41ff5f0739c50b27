use Rattle.std.proofs.Common.{rules, ◌≡◌}
use Rattle.vub_model.specs.Opening.{opening_events}
use Rattle.vub_open.proofs.HostTakes.{events-there}
use Rattle.vub_open.proofs.new_host.open_host.Goals as goal

pub open_lists-requires-clause-there : goal.open_lists-requires-clause-there
open_lists-requires-clause-there c object low =
    let are : c.create_bells.new.host.table.objects ≡ opening_events c.args.objects.now c.args.constants.now.masks = search rules in
    events-there c.args.objects.now c.args.constants.now.masks c.create_bells.new.host.table.objects are object low
