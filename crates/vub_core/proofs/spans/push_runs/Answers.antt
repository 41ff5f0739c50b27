use Rattle.std.proofs.Common.{◌∙◌, sym, arith}
use Rattle.vub_core.proofs.Runs.{push_run, pass_byte}
use Rattle.vub_core.proofs.spans.push_runs.Goals as goal

pub loop-at-preserved-then-is_flagged : goal.loop-at-preserved-then-is_flagged
loop-at-preserved-then-is_flagged c =
    (c.end_of_run-end.ensures.within, λ all is. push_run all _ c.args.object _ _ _ _ _ _ c.in_ok-span_of.field-0 is c.end_of_run-end.ensures c.in_ok-span_of.ensures c.in_ok-push.ensures.items (c.loop-at.invariant.1 all is))

pub loop-at-preserved : goal.loop-at-preserved
loop-at-preserved c =
    (omega (arith, c.loop-at-test.true), λ all is. pass_byte all _ c.args.object _ _ _ _ is (sym c.is_flagged.ensures ∙ c.if-is_flagged.false) c.loop-at-test.true (c.loop-at.invariant.1 all is))
