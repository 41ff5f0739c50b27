use Rattle.vub_handler.specs.Opening.{OpensFirst}
use Rattle.vub_handler.proofs.workers.open_workers.Given as goal

abbrev pub invariant-loop-worker : goal.invariant-loop-worker
invariant-loop-worker g l = OpensFirst l.worker l.opened.items (g.P.Parts.state l.initial.parts) (g.P.Parts.state l.parts)
