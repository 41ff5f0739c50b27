use Rattle.std.proofs.Common.{◌∙◌}
use Rattle.vub_trace.proofs.TraceOf.{trace-again}
use Rattle.vub_trace.proofs.program.trace_of_script.Goals as goal

pub returns-in-Ok-print_trace-clause-trace : goal.returns-in-Ok-print_trace-clause-trace
returns-in-Ok-print_trace-clause-trace c =
    trace-again c.args.script c.as_slice-3.result.now c.as_slice-2.result.now c.as_slice-4.result.now c.in_ok-run.run' c.in-Ok-print_trace.text
    (c.as_slice-3.ensures ∙ c.in-Ok.ensures ∙ c.as_slice.ensures) c.as_slice-2.ensures c.as_slice-4.ensures c.in_ok-run.ensures.run c.in-Ok-print_trace.ensures
