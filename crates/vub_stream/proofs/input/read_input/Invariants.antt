use Rattle.std.proofs.Common.{◌≤◌, ◌-◌, length}
use Rattle.std.specs.Io.KnownBytes.{Consumes}
use Rattle.vub_stream.proofs.input.read_input.Given as goal

abbrev pub invariant-loop-alloc : goal.invariant-loop-alloc
invariant-loop-alloc g l =
    Consumes (g.S.Source.left l.fn.source) (g.S.Source.left l.source) l.found.items
    × (g.S.Source.fault_count l.fn.source ≤ g.S.Source.fault_count l.source)
    × (length l.found.items ≤ 16777217)

abbrev pub decreases-loop-alloc : goal.decreases-loop-alloc
decreases-loop-alloc g l = 16777217 - length l.found.items
