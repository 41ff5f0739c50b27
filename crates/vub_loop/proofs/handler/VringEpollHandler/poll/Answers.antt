use Rattle.std.proofs.Common.{sym, ap, ◌∙◌}
use Rattle.vub_model.specs.Service.{meaning}
use Rattle.vub_loop.specs.Worker.{Worker}
use Rattle.vub_loop.specs.Handler.{phase_of}
use Rattle.vub_loop.proofs.Polled.{poll-row, least-row}
use Rattle.vub_loop.proofs.Telling.{told-map}
use Rattle.vub_loop.proofs.handler.VringEpollHandler.poll.Goals as goal

pub returns-in-Some-clause-row : goal.returns-in-Some-clause-row
returns-in-Some-clause-row g c w worker is =
    let here = rw (← c.self.view_is) at is in
    told-map _ _ _ _ (λ a b call.
    poll-row (meaning g.P.Service.Service.reply_of g.P.Service.Service.after) w worker c.self.inside.opened (phase_of c.args.self.now) (phase_of c.stand.new.self) c.in-Ok.said c.in-Some.ready a b
    here.opened (ap (λ (h : Worker). h.phase) (sym c.self.view_is) ∙ (sym c.phase.ensures.same ∙ c.in-Idle.is)) (ap (λ (h : Worker). h.phase) c.stand.ensures) (sym c.in-Some.is ∙ c.member_of.ensures) call) c.in-Ok.ensures.row

pub returns-in-Some-clause-least : goal.returns-in-Some-clause-least
returns-in-Some-clause-least g c w worker is =
    let here = rw (← c.self.view_is) at is in
    told-map _ _ _ _ (λ a b call. least-row w worker c.self.inside.opened c.in-Ok.said c.in-Some.ready a b here.opened (sym c.in-Some.is ∙ c.member_of.ensures) call) c.in-Ok.ensures.row
