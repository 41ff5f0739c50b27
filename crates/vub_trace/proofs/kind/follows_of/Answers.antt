use Rattle.std.proofs.Common.{sym, ◌∙◌}
use Rattle.vub_trace.proofs.Turned.{follows_none}
use Rattle.vub_trace.proofs.kind.follows_of.Goals as goal

pub returns-then-at-labels : goal.returns-then-at-labels
returns-then-at-labels c =
    sym (follows_none c.args.party c.args.turns.now c.args.labels.now c.loop-at.at c.if-at-labels.true) ∙ c.loop-at.invariant
