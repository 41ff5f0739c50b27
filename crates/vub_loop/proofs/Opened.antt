-- Which handler is the worker of a number: one that was just opened, and one after a step.
use Rattle.std.proofs.Common.{◌≡◌, ℕ, refl, sym, ◌∙◌, ap}
use Rattle.vub_model.specs.declared.constants.Constants.{Constants}
use Rattle.vub_model.specs.declared.wiring.Opened.{Opened}
use Rattle.vub_model.specs.Wiring.{Wiring, opened_at, queues_of}
use Rattle.vub_loop.specs.Worker.{Worker}
use Rattle.vub_loop.specs.Handler.{IsHandler, SameWorker, new_handler}

-- a worker that was opened as the wiring has it, before its first step
pub new-handler : (g : Wiring) (constants : Constants) (opened : Opened) → g.queues ≡ constants.queues → g.masks ≡ constants.masks → opened ≡ opened_at g opened.worker → IsHandler g opened.worker (new_handler constants opened)
unfolding queues_of
new-handler g constants opened queues masks is = record {
  number = refl;
  opened = is;
  queues = rw (queues, masks) refl;
  count = sym queues;
}

-- a worker after a step
pub same-handler : (g : Wiring) (worker : ℕ) (old new : Worker) → IsHandler g worker old → SameWorker old new → IsHandler g worker new
same-handler g worker old new is same = record {
  number = ap (λ (o : Opened). o.worker) same.opened ∙ is.number;
  opened = same.opened ∙ is.opened;
  queues = same.queues ∙ is.queues;
  count = same.count ∙ is.count;
}
