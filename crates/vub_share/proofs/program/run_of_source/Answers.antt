use Rattle.vub_share.specs.Inputs.{HasScript}
use Rattle.vub_share.proofs.OneRunOf.{if-some, calls-caused, calls-played}
use Rattle.vub_share.proofs.program.run_of_source.Goals as goal

pub returns-in-Ok-clause-calls : goal.returns-in-Ok-clause-calls
returns-in-Ok-clause-calls g c =
    if-some (g.S.Source.left c.args.source.now) (λ input. HasScript input c.in_ok-script.script) _ c.in_ok-script.ensures.script
    (λ input has. (c.in_ok-script.script, has, c.in-Ok.ensures.run))

pub returns-in-Err-clause-calls : goal.returns-in-Err-clause-calls
returns-in-Err-clause-calls g c =
    if-some (g.S.Source.left c.args.source.now) (λ input. HasScript input c.in_ok-script.script) _ c.in_ok-script.ensures.script
    (λ input has. calls-caused input c.in_ok-script.script c.in-Err.why has c.in-Err.ensures.refused)
