use Rattle.std.proofs.Common.{◌∙◌, sym}
use Rattle.vub_ring.proofs.Takes.{found_in, found_off, guest_in, guest_off}
use Rattle.vub_ring.proofs.play.take_found.Goals as goal

pub returns-then-not-may_take-clause-took : goal.returns-then-not-may_take-clause-took
returns-then-not-may_take-clause-took g c = found_off c.args.memory.now.guest c.args.ring.now (sym c.may_take.ensures ∙ c.if-not-may_take.true)

pub returns-then-not-may_take-clause-guest : goal.returns-then-not-may_take-clause-guest
returns-then-not-may_take-clause-guest g c = guest_off c.args.memory.now.guest c.args.ring.now (sym c.may_take.ensures ∙ c.if-not-may_take.true)

pub returns-clause-took : goal.returns-clause-took
returns-clause-took g c =
    found_in c.args.memory.now.guest c.args.ring.now c.copy-queue.result c.take_uncounted.result (sym c.may_take.ensures ∙ c.if-not-may_take.false) (c.copy-queue.ensures ∙ c.get_queue.ensures) c.take_uncounted.ensures.took

pub returns-clause-guest : goal.returns-clause-guest
returns-clause-guest g c =
    guest_in c.args.memory.now.guest c.take_uncounted.new.memory.guest c.args.ring.now c.copy-queue.result c.take_uncounted.result (sym c.may_take.ensures ∙ c.if-not-may_take.false) (c.copy-queue.ensures ∙ c.get_queue.ensures) c.take_uncounted.ensures.guest
