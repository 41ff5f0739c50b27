use Rattle.vub_core.proofs.Flags.{FlagsSo}
use Rattle.vub_core.proofs.written.Written.flag_range.Given as goal

abbrev pub decreases-loop-left : goal.decreases-loop-left
decreases-loop-left l = l.left

abbrev pub invariant-loop-left : goal.invariant-loop-left
invariant-loop-left l = FlagsSo l.memory.guest.regions l.initial.self l.self l.addr l.len l.at l.left
