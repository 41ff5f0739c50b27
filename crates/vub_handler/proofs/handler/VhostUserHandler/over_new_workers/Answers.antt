use Rattle.vub_handler.proofs.Opening.{unmade_full}
use Rattle.vub_handler.proofs.handler.VhostUserHandler.over_new_workers.Goals as goal

pub returns-in-Err-over-clause-err : goal.returns-in-Err-over-clause-err
returns-in-Err-over-clause-err g c =
    unmade_full _ c.in-Ok.opened.items (g.P.Parts.state c.args.parts.now) (g.P.Parts.state c.open_workers.new.parts) c.in-Ok.ensures.ok
