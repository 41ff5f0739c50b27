use Rattle.std.proofs.Common.{◌≡◌}
use Rattle.vub_core.specs.Flags.{filled}
use Rattle.vub_core.proofs.written.fill.Given as goal

abbrev pub invariant-loop-done : goal.invariant-loop-done
invariant-loop-done l = l.flags ≡ filled l.initial.flags l.from l.done
