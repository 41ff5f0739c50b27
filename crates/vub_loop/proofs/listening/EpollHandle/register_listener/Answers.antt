use Rattle.std.proofs.Common.{sym, ◌∙◌}
use Rattle.vub_loop.proofs.Listeners.{listen-told, register-refused}
use Rattle.vub_loop.proofs.listening.EpollHandle.register_listener.Goals as goal

pub returns-then-not-is_for_listener-clause-row : goal.returns-then-not-is_for_listener-clause-row
returns-then-not-is_for_listener-clause-row g c =
    register-refused c.args.self.now c.args.object c.args.set c.args.token (g.P.Parts.state c.args.parts.now).shared (sym c.is_for_listener.ensures ∙ c.if-not-is_for_listener.true)

pub returns-clause-row : goal.returns-clause-row
returns-clause-row g c =
    listen-told c.args.self.now c.args.object c.args.set c.args.token c.host-answer.result c.listener_answer.result (g.P.Parts.state c.args.parts.now).shared (g.P.Parts.state c.host-answer.new.self).shared
    (sym c.is_for_listener.ensures ∙ c.if-not-is_for_listener.false) c.host-answer.ensures.said c.listener_answer.ensures.same c.host-answer.ensures.row
