use Rattle.vub_loop.proofs.Counters.{bell-row, unrung-row}
use Rattle.vub_loop.proofs.Telling.{told-map, by-row}
use Rattle.vub_loop.proofs.reading.rung.Goals as goal
use Rattle.std.proofs.Common.{sym, ◌∙◌}

pub returns-then-was_counted-clause-row : goal.returns-then-was_counted-clause-row
returns-then-was_counted-clause-row g c =
    told-map _ _ _ _ (λ a b call. by-row _ _ _ (bell-row a b c.in-Ok.said c.args.opened.bell c.args.opened.exit (sym c.was_counted.ensures ∙ c.if-was_counted.true) call)) c.in-Ok.ensures.row

pub returns-else-was_counted-clause-row : goal.returns-else-was_counted-clause-row
returns-else-was_counted-clause-row g c =
    told-map _ _ _ _ (λ a b call. by-row _ _ _ (unrung-row a b c.in-Ok.said c.args.opened.bell c.args.opened.exit c.unrung.result (sym c.was_counted.ensures ∙ c.if-was_counted.false) c.in-Ok.ensures.said c.unrung.ensures call)) c.in-Ok.ensures.row
