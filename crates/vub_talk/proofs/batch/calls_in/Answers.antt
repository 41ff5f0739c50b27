use Rattle.std.proofs.Common.{◌∙◌}
use Rattle.vub_talk.proofs.Pushed.{calls_past}
use Rattle.vub_talk.proofs.batch.calls_in.Goals as goal

pub loop-count-preserved : goal.loop-count-preserved
loop-count-preserved c = c.loop-count.invariant ∙ calls_past c.args.counts.now c.loop-count.count-index c.loop-count-test.true c.if-count-eq-CALL.false
