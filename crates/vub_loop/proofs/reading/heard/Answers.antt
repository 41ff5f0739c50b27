use Rattle.std.proofs.Common.{sym, ◌∙◌}
use Rattle.vub_loop.proofs.Counters.{listener-row, stale-row}
use Rattle.vub_loop.proofs.Telling.{told-map, by-row}
use Rattle.vub_loop.proofs.reading.heard.Goals as goal

pub returns-then-was_member-clause-row : goal.returns-then-was_member-clause-row
returns-then-was_member-clause-row g c =
    told-map _ _ _ _ (λ a b call. by-row _ _ _ (listener-row a b c.in-Ok.said c.args.list c.args.object c.args.token (sym c.was_member.ensures ∙ c.if-was_member.true) call)) c.in-Ok.ensures.row

pub returns-else-was_member-clause-row : goal.returns-else-was_member-clause-row
returns-else-was_member-clause-row g c =
    told-map _ _ _ _ (λ a b call. by-row _ _ _ (stale-row a b c.in-Ok.said c.args.list c.args.object c.args.token (sym c.was_member.ensures ∙ c.if-was_member.false) c.in-Ok.ensures.said call)) c.in-Ok.ensures.row
