use Rattle.std.proofs.Common.{◌≡◌, ◌==◌, find, ap, ◌∙◌}
use Rattle.vub_model.specs.Opening.{ring_from}
use Rattle.vub_open.proofs.NewRings.{found_fits, made_next, made_is}
use Rattle.vub_open.proofs.new_rings.open_rings.Goals as goal

pub ring_from-requires-clause-fit : goal.ring_from-requires-clause-fit
ring_from-requires-clause-fit c = found_fits c.args.constants.now.max (λ r. r.queue == c.loop-queue.queue) c.args.given.now c.given_of.result c.requires.fit c.given_of.ensures

pub loop-queue-preserved : goal.loop-queue-preserved
loop-queue-preserved c =
    let k = c.args.constants.now in
    let given = c.args.given.now in
    let made : c.in-Ok.ring ≡ ring_from k.max (find (λ r. r.queue == c.loop-queue.queue) given) = made_is c.in-Ok.ring _ c.in-Ok.ensures ∙ ap (λ o. ring_from k.max o) c.given_of.ensures in
    made_next (λ q. ring_from k.max (find (λ r. r.queue == q) given)) c.loop-queue.queue c.loop-queue.rings.items c.push.new.self.items c.in-Ok.ring c.loop-queue.invariant made c.in_ok-push-in-Ok.ensures.items
