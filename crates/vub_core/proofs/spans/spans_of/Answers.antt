use Rattle.std.proofs.Common.{sym}
use Rattle.vub_model.specs.declared.setup.Object.TheVariants.{Event}
use Rattle.vub_core.proofs.Runs.{next_content}
use Rattle.vub_core.proofs.spans.spans_of.Goals as goal

pub loop-number-preserved : goal.loop-number-preserved
loop-number-preserved c =
    next_content c.args.written.now c.args.memory.now.guest c.args.objects.now c.loop-number.number (Event 0) _ _ _ c.loop-number-test.true c.loop-number.invariant (c.in_ok-push_content.ensures c.args.written.now (sym c.of-flags.ensures))
