use Rattle.vub_loop.proofs.Polled.{least-member}
use Rattle.vub_loop.proofs.Telling.{told-map}
use Rattle.vub_loop.proofs.handler.VringEpollHandler.poll_step.Goals as goal

pub returns-in-Member-clause-least : goal.returns-in-Member-clause-least
returns-in-Member-clause-least g c w worker is =
    told-map _ _ _ _ (λ a b least. least-member w worker c.in_ok-poll.field-0 c.in-Member.field-0 _ _ a c.in-Member.is c.in_ok-poll.ensures.phase least) (c.in_ok-poll.ensures.least w worker is)
