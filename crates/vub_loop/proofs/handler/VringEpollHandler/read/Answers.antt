use Rattle.std.proofs.Common.{ℕ, ◌<◌, ◌≤◌, List, length, get_or, ap, sym, ◌∙◌, arith}
use Rattle.vub_loop.proofs.Tokens.{read-as, kick-token, bell-token, listener-token}
use Rattle.vub_loop.proofs.handler.VringEpollHandler.read.Goals as goal

pub returns-then-token-len-clause-row : goal.returns-then-token-len-clause-row
returns-then-token-len-clause-row g c w worker is =
    let here = rw (← c.self.view_is) at is in
    let below : c.args.token < length c.self.inside.queues = omega arith in
    let row = kick-token w worker c.self.inside.queues c.args.object c.args.token (get_or c.as_slice.result.now c.args.token 0) here.queues below (ap (λ (l : List ℕ). get_or l c.args.token 0) c.as_slice.ensures) in
    read-as _ _ _ _ _ _ row.0 row.1 _ _ _ c.kicked.ensures.row

pub returns-then-token-self-clause-row : goal.returns-then-token-self-clause-row
returns-then-token-self-clause-row g c w worker is =
    let here = rw (← c.self.view_is) at is in
    let past : length c.self.inside.queues ≤ c.args.token = omega arith in
    let row = bell-token w worker c.self.inside.queues c.args.object c.args.token c.self.inside.opened here.queues past (c.if-token-self.true ∙ here.count) here.opened in
    read-as _ _ _ _ _ _ row.0 row.1 _ _ _ c.rung.ensures.row

pub returns-else-token-self-clause-row : goal.returns-else-token-self-clause-row
returns-else-token-self-clause-row g c w worker is =
    let here = rw (← c.self.view_is) at is in
    let past : length c.self.inside.queues ≤ c.args.token = omega arith in
    let row = listener-token w worker c.self.inside.queues c.args.object c.args.token c.self.inside.opened here.queues past (λ same. c.if-token-self.false (same ∙ sym here.count)) here.opened in
    read-as _ _ _ _ _ _ row.0 row.1 _ _ _ c.heard.ensures.row
