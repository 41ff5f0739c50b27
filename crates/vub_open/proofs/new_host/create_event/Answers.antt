use Rattle.std.proofs.Common.{Err, ap}
use Rattle.vub_open.proofs.HostCauses.{only-memory}
use Rattle.vub_open.proofs.NewEvents.{cut_flags}
use Rattle.vub_open.proofs.new_host.create_event.Goals as goal

pub only_memory-requires : goal.only_memory-requires
only_memory-requires c = only-memory _ c.in-Err.fault (cut_flags c.args.flags) c.in-Err.ensures.table.0 (λ same. c.in-Err.ensures.faults.sound c.requires (ap (λ e. Err e) same))
