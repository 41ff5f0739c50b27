use Rattle.std.proofs.Common.{Err, ap}
use Rattle.vub_open.proofs.HostCauses.{only-memory}
use Rattle.vub_open.proofs.new_host.add_member.Goals as goal

pub only_memory-requires : goal.only_memory-requires
only_memory-requires c = only-memory _ c.in-Err.fault c.requires.taken c.in-Err.ensures.table.0 (λ same. c.in-Err.ensures.faults.sound c.requires.sound (ap (λ e. Err e) same))
