use Rattle.vub_handler.proofs.Opening.{unmade_early, made-after}
use Rattle.vub_handler.proofs.handler.VhostUserHandler.new.Goals as goal

pub returns-in_default-clause-err : goal.returns-in_default-clause-err
returns-in_default-clause-err g c = unmade_early (g.P.Parts.state c.args.parts.now) (g.P.Parts.state c.constants.new.self) c.constants.ensures.same

pub returns-then-constants-gt-GREATEST_COUNT-clause-err :
    goal.returns-then-constants-gt-GREATEST_COUNT-clause-err
returns-then-constants-gt-GREATEST_COUNT-clause-err g c = unmade_early (g.P.Parts.state c.args.parts.now) (g.P.Parts.state c.constants.new.self) c.constants.ensures.same

pub returns-clause-made : goal.returns-clause-made
returns-clause-made g c =
    made-after (g.P.Parts.state c.args.parts.now) (g.P.Parts.state c.constants.new.self) (g.P.Parts.state c.over_new_workers.new.parts)
    c.over_new_workers.result c.constants.ensures.same c.over_new_workers.ensures.made
