use Rattle.std.proofs.Common.{[], ◌∷◌, ◌++◌, ◌+◌, refl}
use Rattle.vub_handler.proofs.Opening.{opens-more, stops-here, stops-full}
use Rattle.vub_handler.proofs.workers.open_workers.Goals as goal

pub returns-in-Err-clause-err : goal.returns-in-Err-clause-err
returns-in-Err-clause-err g c =
    stops-here c.loop-worker.worker c.loop-worker.opened.items c.in-Err.error (g.P.Parts.state c.args.parts.now) (g.P.Parts.state c.loop-worker.parts)
    (g.P.Parts.state c.open_worker.new.parts) c.loop-worker.invariant c.in-Err.ensures.stopped c.in-Err.ensures.frame

pub returns-in-Err-push-clause-err : goal.returns-in-Err-push-clause-err
returns-in-Err-push-clause-err g c =
    stops-full (c.loop-worker.worker + 1) (c.loop-worker.opened.items ++ c.in-Ok.next ∷ []) (g.P.Parts.state c.args.parts.now) (g.P.Parts.state c.open_worker.new.parts)
    (opens-more c.loop-worker.worker c.loop-worker.opened.items (c.loop-worker.opened.items ++ c.in-Ok.next ∷ []) c.in-Ok.next (g.P.Parts.state c.args.parts.now) (g.P.Parts.state c.loop-worker.parts)
    (g.P.Parts.state c.open_worker.new.parts) c.loop-worker.invariant c.in-Ok.ensures.worker c.in-Ok.ensures.told c.in-Ok.ensures.frame refl)

pub loop-worker-preserved : goal.loop-worker-preserved
loop-worker-preserved g c =
    opens-more c.loop-worker.worker c.loop-worker.opened.items c.push.new.self.items c.in-Ok.next (g.P.Parts.state c.args.parts.now) (g.P.Parts.state c.loop-worker.parts)
    (g.P.Parts.state c.open_worker.new.parts) c.loop-worker.invariant c.in-Ok.ensures.worker c.in-Ok.ensures.told c.in-Ok.ensures.frame c.in-Ok-push.ensures.items
