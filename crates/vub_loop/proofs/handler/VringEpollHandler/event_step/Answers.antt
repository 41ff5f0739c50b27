use Rattle.std.proofs.Common.{ap, sym, ◌∙◌}
use Rattle.vub_model.specs.Service.{meaning}
use Rattle.vub_loop.specs.Handler.{phase_of}
use Rattle.vub_loop.specs.Worker.{Worker}
use Rattle.vub_loop.proofs.Events.{event-step}
use Rattle.vub_loop.proofs.Telling.{told-map}
use Rattle.vub_loop.proofs.handler.VringEpollHandler.event_step.Goals as goal

pub returns-in_ok-phase-in-Polled-clause-row : goal.returns-in_ok-phase-in-Polled-clause-row
returns-in_ok-phase-in-Polled-clause-row g c w worker is =
    let here = rw (← c.self.view_is) at is in
    told-map _ _ _ _ (λ a b reads.
    event-step _ _ (meaning g.P.Service.Service.reply_of g.P.Service.Service.after) w worker c.in-Polled.object c.in-Polled.token (phase_of c.args.self.now) c.in_ok-phase-in-Polled.phase c.new.result a b
    (ap (λ (h : Worker). h.phase) (sym c.self.view_is) ∙ (sym c.phase.ensures.same ∙ c.in-Polled.is)) c.new.ensures reads) (c.in_ok-phase-in-Polled.ensures.row w worker here)
