use Rattle.std.proofs.Common.{◌≡◌, drop}
use Rattle.vub_trace.specs.Kinds.{follows_of}
use Rattle.vub_trace.proofs.kind.follows_of.Given as goal

abbrev pub invariant-loop-at : goal.invariant-loop-at
invariant-loop-at l = follows_of l.party (drop l.at l.turns) (drop l.at l.labels) ≡ follows_of l.party l.turns l.labels
